-- An array of tables is read alike where each of its tables is.
use Rattle.std.proofs.Common.{◌≡◌, ℕ, pos, ◌+◌, ◌&&◌, suc, Bool, true, false, if◌then◌else◌, nat_le, List, [], ◌∷◌, ◌++◌, map, length, Option, Some, None, option_map, Result, Ok, Err, refl, ap, ◌∙◌}
use Rattle.std.specs.List.{list_all}
use Rattle.toml.specs.Data.{Data, array, table, Items, no_items, item, get}
use Rattle.session_plan.specs.declared.key.Place.{Place}
use Rattle.session_plan.specs.Fault.{Fault, ◌>>=◌, out_of_range}
use Rattle.session_plan.specs.Keys.{key_of}
use Rattle.session_plan.specs.Reading.{as_list, at_most, each, is_table, list_of, needs, of_kind, or_default, tables, tables_at}
use Rattle.unread_keys.specs.declared.names.Kind.{Kind}
use Rattle.unread_keys.specs.Pruned.{each_element, each_item, pruned_table}

pub keeps_table : (kind : Kind) (inside : List ℕ → Data → Data) (d : Data) → is_table (pruned_table kind inside d) ≡ is_table d
keeps_table kind inside (table ms) = refl
keeps_table kind inside d = refl

same_items : (f : Data → Data) (ds : Items) → list_of (each_item f ds) ≡ map f (list_of ds)
same_items f no_items = refl
same_items f (item d ds) = ap (λ xs. f d ∷ xs) (same_items f ds)

same_list : (f : Data → Data) (d : Data) → as_list (each_element f d) ≡ option_map (map f) (as_list d)
same_list f (array ds) = ap Some (same_items f ds)
same_list f d = refl

same_length : (f : Data → Data) (ds : List Data) → length (map f ds) ≡ length ds
same_length f [] = refl
same_length f (d ∷ ds) = ap suc (same_length f ds)

module _ (f : Data → Data) (keeps : (d : Data) → is_table (f d) ≡ is_table d) where
  all_tables : (ds : List Data) → list_all is_table (map f ds) ≡ list_all is_table ds
  all_tables [] = refl
  all_tables (d ∷ ds) = λ i. keeps d i && all_tables ds i

  passed : (key : List ℕ) (ds : List Data) (b : Bool) → (needs key b >>= λ all. Ok (map f ds)) ≡ ((needs key b >>= λ all. Ok ds) >>= λ xs. Ok (map f xs))
  passed key ds true = refl
  passed key ds false = refl

  of_list : (key : List ℕ) (o : Option (List Data))
      → (of_kind key (option_map (map f) o) >>= λ ds. needs key (list_all is_table ds) >>= λ all. Ok ds)
      ≡ ((of_kind key o >>= λ ds. needs key (list_all is_table ds) >>= λ all. Ok ds) >>= λ ds. Ok (map f ds))
  of_list key None = refl
  of_list key (Some ds) = ap (λ b. needs key b >>= λ all. Ok (map f ds)) (all_tables ds) ∙ passed key ds (list_all is_table ds)

  same_tables : (key : List ℕ) (d : Data) → tables key (each_element f d) ≡ (tables key d >>= λ ds. Ok (map f ds))
  unfolding tables
  same_tables key d = ap (λ o. of_kind key o >>= λ ds. needs key (list_all is_table ds) >>= λ all. Ok ds) (same_list f d) ∙ of_list key (as_list d)

  module _ {B : Type 0} (read : List Data → Result B Fault) (same : (ds : List Data) → read (map f ds) ≡ read ds) where
    of_result : (r : Result (List Data) Fault) → ((r >>= λ ds. Ok (map f ds)) >>= read) ≡ (r >>= read)
    of_result (Ok ds) = same ds
    of_result (Err e) = refl

    -- the tables of an array
    pub same_array : (key : List ℕ) (d : Data) → (tables key (each_element f d) >>= read) ≡ (tables key d >>= read)
    same_array key d = ap (λ r. r >>= read) (same_tables key d) ∙ of_result (tables key d)

    of_found : (key : List ℕ) (o : Option Data)
        → (or_default [] (option_map (each_element f) o) (λ found. tables key found) >>= read) ≡ (or_default [] o (λ found. tables key found) >>= read)
    of_found key None = refl
    of_found key (Some d) = same_array key d

    -- those of the array at a key
    pub same_at : (p : Place) (key : List ℕ) (e d : Data) → get key e ≡ option_map (each_element f) (get key d)
        → (tables_at p key e >>= read) ≡ (tables_at p key d >>= read)
    unfolding tables_at
    same_at p key e d h = ap (λ o. or_default [] o (λ found. tables (key_of p key) found) >>= read) h ∙ of_found (key_of p key) (get key d)

  module _ {A : Type 0} (read : ℕ → List A → Data → Result A Fault) (same : (k : ℕ) (found : List A) (d : Data) → read k found (f d) ≡ read k found d) where
    -- each entry
    pub same_each : (k : ℕ) (found : List A) (ds : List Data) → each read k found (map f ds) ≡ each read k found ds
    same_each k found [] = refl
    same_each k found (d ∷ ds) = λ i. same k found d i >>= λ x. same_each (k + 1) (found ++ x ∷ []) ds i

    -- at most so many entries
    pub same_counted : (key : List ℕ) (most : ℕ) (ds : List Data)
        → (at_most key most (map f ds) >>= λ few. each read 1 [] (map f ds)) ≡ (at_most key most ds >>= λ few. each read 1 [] ds)
    same_counted key most ds = λ i.
        (if nat_le (same_length f ds i) most then Ok tt else Err (out_of_range key (pos (same_length f ds i)))) >>= λ few. same_each 1 [] ds i
