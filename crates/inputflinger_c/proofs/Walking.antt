-- What the walks share: an address beside an allocator, as the machine keeps a box, and a judge's cell too.
use mathlib.Core.Path.{◌≡◌, refl, sym, ap, subst, ◌∙◌}
use mathlib.Core.List.{List, [], ◌∷◌, ◌++◌}
use lib.Dec.{T, lit<}
use seplogic.Ra.Ura.{Ura}
use mir.Syntax.{ty_ptr, ty_struct, tcons, tnil}
use mir.Val.{Val, vstruct, vcons, vnil, of_list, has_ty, WT}
use base.Logic.{emp}
use base.Fml.{Fml, ftrue, fsep}
use contract.Monad.{fact, fact_i}
use types.Logic.{Logic}
use types.Kit.{Goal, Seq, Step, step, Item, ‵, raw, ◌$◌, move, drop, use0, fsplit, fjoin, fpick, fpack, feq_i, feq_l}
use denote.Param.{param}
use denote.Param.Laws.{param_laws}
use denote.Shadow.{shadow}
use denote.RattleType.{Valss}
use denote.Laws.{Typed}
use denote.RawPtr.{Ptr, RawPtr, block_ptr, null_ptr, ptr_val}
use denote.Steps.{nothing, only}
use denote.Struct.Struct.{Shape, Struct, within}
use Rattle.core.proofs.alloc.Calls.{Al, α, Fits, handle_tells}
use Rattle.std_alloc.proofs.ResultValues.{and_tt}

-- the machine keeps an allocator in one value
in_one : (Z : Al) (vs : List Val) → Typed (α Z ∷ []) vs → (v : Val) × (Fits Z v × (vs ≡ v ∷ []))
in_one Z (v ∷ []) fits = (v, (fits.0, refl))
in_one Z (v ∷ more ∷ vs) fits = absurd fits.1
in_one Z [] fits = absurd fits

-- an address is well typed, null too
pub good_address : (p : Ptr) → T (has_ty ty_ptr (ptr_val p)) × WT (ptr_val p)
good_address (block_ptr b o) = (tt, tt)
good_address null_ptr = (tt, record { fits = lit< tt })

-- the struct of an address and of what the machine has of the allocator
abbrev pub pair : Ptr → Val → Val
pair p v = vstruct (vcons (ptr_val p) (vcons v vnil))

module _ (Z : Al) where
  abbrev two : Shape
  two = record { name = []; args = []; types = []; fields = RawPtr ∷ param 1 Z.row ∷ [] }

  -- what the two fields own, whichever struct they are in
  abbrev pub fields : Ptr → Z.row.Denot → List Val → Fml
  fields p a = (Struct two).own_val (p, (a, tt))

  -- a value of such a struct, of which the name does not matter
  abbrev pub Good : Val → Type 0
  Good v = T (has_ty (ty_struct [] (tcons ty_ptr (tcons (α Z) tnil))) v) × WT v

  pub good_pair : (p : Ptr) (v : Val) → Fits Z v → Good (pair p v)
  good_pair (block_ptr b o) v fits = (and_tt (has_ty (α Z) v) fits.0, (tt, (fits.1, tt)))
  good_pair null_ptr v fits = (and_tt (has_ty (α Z) v) fits.0, (record { fits = lit< tt }, (fits.1, tt)))

  -- what is left as an answer of such a type is well typed
  pub good_answer : (p : Ptr) (v u : Val) → u ∷ [] ≡ pair p v ∷ [] → Fits Z v → Good u
  good_answer p v u is fits = subst Good (sym (ap only is)) (good_pair p v fits)

  -- which machine values the fields have, by what their types say
  pub as_pair : {M : Type 1} {𝓤 : Ura M} (𝓛 : Logic 𝓤) (p : Ptr) (a : Z.row.Denot) (vs : List Val)
      → shadow (fields p a vs) → (v : Val) × ((vs ≡ pair p v ∷ []) × Fits Z v)
  as_pair 𝓛 p a vs says =
      let one = in_one Z says.0.1.0 (((param_laws 0 Z.row Z.laws).lawful 𝓛).typed a says.0.1.0 says.1.1.1.0) in
      (one.0, (says.1.0 ∙ (λ i. vstruct (of_list (says.1.1.0 i ++ (one.1.1 i ++ []))) ∷ []), one.1.0))

  module _ {M : Type 1} {𝓤 : Ura M} {𝓛 : Logic 𝓤} {K : Type 0} {Γ : List (Item 𝓤)} {G : Goal 𝓤 𝓛.H} where
    -- the fields are taken out: the address owns nothing, and the allocator stays
    pub taken_apart : K → (p : Ptr) (a : Z.row.Denot) (vs : List Val)
        → ((v : Val) → vs ≡ pair p v ∷ [] → Fits Z v → Seq K 𝓛 (‵ (Z.row.own_val a (v ∷ [])) ∷ Γ) G)
        → Seq K 𝓛 (‵ (fields p a vs) ∷ Γ) G
    taken_apart t p a vs next =
        fpick t (λ each. fsplit t $ feq_l t (λ whole. fsplit t $ feq_l t (λ first. fsplit t $ handle_tells Z t a each.1.0 (λ v second fits.
        move t (1 ∷ []) $ drop t $
        next v (whole ∙ (λ i. vstruct (of_list (first i ++ (second i ++ []))) ∷ [])) fits))))

    -- and put together again, at any address
    pub put_together : K → (p : Ptr) (a : Z.row.Denot) (v : Val) → Step K 𝓛 (‵ (fields p a (pair p v ∷ [])) ∷ Γ) G (‵ (Z.row.own_val a (v ∷ [])) ∷ Γ) G
    put_together t p a v = step (λ rest.
        nothing t $ move t (1 ∷ 0 ∷ []) $ fjoin t $
        feq_i t (List Val) (ptr_val p ∷ []) (ptr_val p ∷ []) refl $ fjoin t $
        feq_i t (List Val) (pair p v ∷ []) (pair p v ∷ []) refl $ fjoin t $
        fpack t (Valss two.fields) (within two (p, (a, tt)) (pair p v ∷ [])) (ptr_val p ∷ [], (v ∷ [], tt)) $ rest)

-- where a function takes no lifetime and hands nothing back of its one argument, its answer alone is left, with what is known of it
pub answered : {M : Type 1} {𝓤 : Ura M} {𝓛 : Logic 𝓤} {K : Type 0} {G : Goal 𝓤 𝓛.H} {i : Item 𝓤} {φ : Type 0} → K → φ
    → Step K 𝓛 (‵ ftrue ∷ ‵ (fsep ftrue ftrue) ∷ i ∷ raw (fact 𝓤 φ) ∷ []) G (i ∷ []) G
answered {𝓤 = 𝓤} {𝓛 = 𝓛} {φ = φ} t known = step (λ rest.
    use0 𝓛 (raw (fact 𝓤 φ)) (fact_i 𝓤 φ (emp 𝓤) known) $ move t (1 ∷ []) $ nothing t $ nothing t $ fjoin t $ nothing t $ rest)
