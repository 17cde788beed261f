-- What a look-up finds in a table without the keys that nothing reads.
use Rattle.std.proofs.Common.{◌≡◌, ℕ, true, Ordering, Less, Equal, Greater, nat_cmp, is_eq, List, ◌∷◌, Option, Some, None, option_map, filter, refl, sym, ap, ◌∙◌, inl, inr, ◌⊎◌, true≢false}
use Rattle.std.proofs.lemmas.Bool.{cases_Bool}
use Rattle.std.proofs.lemmas.Map.Text.{is_eq-slice_cmp}
use Rattle.std.proofs.lemmas.Slice.Eq.{bytes_eq-Decides}
use Rattle.std.specs.Cmp.Lexicographic.{slice_cmp}
use Rattle.toml.specs.Data.{Data, table, Members, no_members, member, get, get_member}
use Rattle.unread_keys.specs.declared.names.Kind.{Kind}
use Rattle.unread_keys.specs.Lines.{keys_of}
use Rattle.unread_keys.specs.Names.{is_read}
use Rattle.unread_keys.specs.Pruned.{kept, pruned_table}

ordered : (o : Ordering) → (o ≡ Less) ⊎ ((o ≡ Equal) ⊎ (o ≡ Greater))
ordered Less = inl refl
ordered Equal = inr (inl refl)
ordered Greater = inr (inr refl)

same_bytes : (k l : List ℕ) → slice_cmp nat_cmp k l ≡ Equal → k ≡ l
same_bytes k l tie = (bytes_eq-Decides k l).0 (sym (is_eq-slice_cmp k l) ∙ ap is_eq tie)

-- at a key that is read stands what stood there, as `inside` makes it
get_kept : (kind : Kind) (inside : List ℕ → Data → Data) (key : List ℕ) (ms : Members) → is_read kind key ≡ true
    → get_member key (kept kind inside ms) ≡ option_map (inside key) (get_member key ms)
get_kept kind inside key no_members h = refl
get_kept kind inside key (member l d ms) h =
    let more = get_kept kind inside key ms h in
    elim (cases_Bool (is_read kind l)) [
      | inl read ↦ rw read (elim (ordered (slice_cmp nat_cmp key l)) [
        | inl less ↦ rw less more
        | inr other ↦ elim other [
          | inl tie ↦ rw tie (ap (λ k. Some (inside k d)) (sym (same_bytes key l tie)))
          | inr greater ↦ rw greater more
        ]
      ])
      | inr unread ↦ rw unread (elim (ordered (slice_cmp nat_cmp key l)) [
        | inl less ↦ rw less more
        | inr other ↦ elim other [
          | inl tie ↦ absurd (true≢false (sym h ∙ ap (is_read kind) (same_bytes key l tie) ∙ unread))
          | inr greater ↦ rw greater more
        ]
      ])
    ]

pub get_inside : (kind : Kind) (inside : List ℕ → Data → Data) (d : Data) (key : List ℕ) → is_read kind key ≡ true
    → get key (pruned_table kind inside d) ≡ option_map (inside key) (get key d)
get_inside kind inside (table ms) key h = get_kept kind inside key ms h
get_inside kind inside d key h = refl

unchanged : (f : Data → Data) (o : Option Data) → ((d : Data) → f d ≡ d) → option_map f o ≡ o
unchanged f None same = refl
unchanged f (Some d) same = ap Some (same d)

-- and where no table stands inside, the value itself
pub get_same : (kind : Kind) (inside : List ℕ → Data → Data) (d : Data) (key : List ℕ) → is_read kind key ≡ true → ((v : Data) → inside key v ≡ v)
    → get key (pruned_table kind inside d) ≡ get key d
get_same kind inside d key h same = get_inside kind inside d key h ∙ unchanged (inside key) (get key d) same

-- the keys that are left are those that are read
pub keys_kept : (kind : Kind) (inside : List ℕ → Data → Data) (ms : Members) → keys_of (kept kind inside ms) ≡ filter (is_read kind) (keys_of ms)
keys_kept kind inside no_members = refl
keys_kept kind inside (member l d ms) =
    elim (cases_Bool (is_read kind l)) [
      | inl read ↦ rw read (ap (λ ks. l ∷ ks) (keys_kept kind inside ms))
      | inr unread ↦ rw unread (keys_kept kind inside ms)
    ]
