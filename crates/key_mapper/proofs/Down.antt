-- The keys that are down, one event more.
use Rattle.std.specs.Prelude.{◌≡◌, ℕ, ◌&&◌, ◌||◌, not, nat_eq, Bool, true, false, cond, pos, List, ◌∷◌, Option, Some, None, is_some, if◌then◌else◌}
use Rattle.std.specs.BTreeMap.{is_at}
use Rattle.std.specs.Ordering.{nat_cmp, is_eq}
use Rattle.std.proofs.Common.{sym, ◌∙◌, ap, refl, arith}
use Rattle.std.proofs.lemmas.Bool.{eqb-true}
use Rattle.key_layout.specs.Layout.{Codes, found_at, code_at}
use Rattle.key_mapper.specs.Key.{KeyEvent, is_down, meta_of, key_args_of}
use Rattle.key_mapper.specs.Held.{Held, KeysStandFor}

pub same_key : (a b : ℕ) → is_eq (nat_cmp a b) ≡ nat_eq b a
same_key a b = grind arith

press_at : (layout : Codes) (past : List KeyEvent) (scan s : ℕ) (t : Bool) → nat_eq s scan ≡ t → (before after : Option ℕ)
    → before ≡ (if is_down s past then Some (code_at layout s) else None) → after ≡ cond t (Some (code_at layout scan)) before
    → after ≡ (if (if t && true then true else is_down s past) then Some (code_at layout s) else None)
press_at layout past scan s true is before after b a = a ∙ ap (λ n. Some (code_at layout n)) (sym (eqb-true s scan is))
press_at layout past scan s false is before after b a = a ∙ b

pub stands_press : (layout down after : Codes) (past : List KeyEvent) (scan : ℕ)
    → ((s : ℕ) → found_at down s ≡ (if is_down s past then Some (code_at layout s) else None))
    → ((s : ℕ) → found_at after s ≡ cond (is_at (nat_cmp scan) s) (Some (code_at layout scan)) (found_at down s))
    → (s : ℕ) → found_at after s ≡ (if is_down s (record { scan = scan; value = pos 1 } ∷ past) then Some (code_at layout s) else None)
stands_press layout down after past scan before is s =
    press_at layout past scan s (nat_eq s scan) refl (found_at down s) (found_at after s) (before s)
    (is s ∙ ap (λ t. cond t (Some (code_at layout scan)) (found_at down s)) (same_key scan s))

release_at : (layout : Codes) (past : List KeyEvent) (scan s : ℕ) (t : Bool) → nat_eq s scan ≡ t → (before after : Option ℕ)
    → before ≡ (if is_down s past then Some (code_at layout s) else None) → after ≡ cond t None before
    → after ≡ (if (if t && true then false else is_down s past) then Some (code_at layout s) else None)
release_at layout past scan s true is before after b a = a
release_at layout past scan s false is before after b a = a ∙ b

pub stands_release : (layout down after : Codes) (past : List KeyEvent) (scan : ℕ)
    → ((s : ℕ) → found_at down s ≡ (if is_down s past then Some (code_at layout s) else None))
    → ((s : ℕ) → found_at after s ≡ cond (is_at (nat_cmp scan) s) None (found_at down s))
    → (s : ℕ) → found_at after s ≡ (if is_down s (record { scan = scan; value = pos 0 } ∷ past) then Some (code_at layout s) else None)
stands_release layout down after past scan before is s =
    release_at layout past scan s (nat_eq s scan) refl (found_at down s) (found_at after s) (before s)
    (is s ∙ ap (λ t. cond t None (found_at down s)) (same_key scan s))

pub none_of : (o : Option ℕ) → is_some o ≡ false → o ≡ None
none_of None h = refl
none_of (Some x) h = absurd (cc)

up_at : (layout : Codes) (s : ℕ) (d : Bool) → None ≡ (if d then Some (code_at layout s) else None) → d ≡ false
up_at layout s true e = absurd (cc)
up_at layout s false e = refl

down_at : (layout : Codes) (s c : ℕ) (d : Bool) → Some c ≡ (if d then Some (code_at layout s) else None) → (d ≡ true) × (c ≡ code_at layout s)
down_at layout s c true e = (refl, let f : c ≡ code_at layout s = cc in f)
down_at layout s c false e = absurd (cc)

-- a key that does not stand among those that are down is up
pub is_up : (k : Held) (past : List KeyEvent) (scan : ℕ) → KeysStandFor past k → found_at k.down scan ≡ None → is_down scan past ≡ false
is_up k past scan stands none = up_at k.layout scan (is_down scan past) (sym none ∙ stands scan)

-- one that does is down, and stands there with its code
pub is_held : (k : Held) (past : List KeyEvent) (scan c : ℕ) → KeysStandFor past k → found_at k.down scan ≡ Some c → (is_down scan past ≡ true) × (c ≡ code_at k.layout scan)
is_held k past scan c stands some = down_at k.layout scan c (is_down scan past) (sym some ∙ stands scan)

pub press_gives : (device : ℕ) (layout : Codes) (past : List KeyEvent) (scan : ℕ) → is_down scan past ≡ false
    → Some (record { device = device; scan = scan; code = code_at layout scan; meta = meta_of layout (record { scan = scan; value = pos 1 } ∷ past); down = true })
    ≡ key_args_of device layout past (record { scan = scan; value = pos 1 })
press_gives device layout past scan up =
    ap (λ (d : Bool). if (true && not d) || (false && d) then Some (record { device = device; scan = scan; code = code_at layout scan; meta = meta_of layout (record { scan = scan; value = pos 1 } ∷ past); down = true }) else None) (sym up)

pub release_gives : (device : ℕ) (layout : Codes) (past : List KeyEvent) (scan : ℕ) → is_down scan past ≡ true
    → Some (record { device = device; scan = scan; code = code_at layout scan; meta = meta_of layout (record { scan = scan; value = pos 0 } ∷ past); down = false })
    ≡ key_args_of device layout past (record { scan = scan; value = pos 0 })
release_gives device layout past scan down =
    ap (λ (d : Bool). if (false && not d) || (true && d) then Some (record { device = device; scan = scan; code = code_at layout scan; meta = meta_of layout (record { scan = scan; value = pos 0 } ∷ past); down = false }) else None) (sym down)
