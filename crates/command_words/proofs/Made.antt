-- A command is made of its options exactly where each has a value that it takes.
use Rattle.std.proofs.Common.{codes, ◌≡◌, ℕ, List, [], ◌∷◌, Bool, true, false, ◌&&◌, Option, Some, None, option_map, refl, sym, ◌∙◌}
use Rattle.std.specs.List.{list_all}
use Rattle.std.specs.Prelude.{is_some, not, if◌then◌else◌}
use Rattle.help_text.specs.declared.page.Name.{Name}
use Rattle.help_text.specs.declared.page.Name.TheVariants.{Replay, Race, Check, Verify, Work, Batch, Hover, Emit, Inspect, Why, Judge, Compare}
use Rattle.command_words.specs.Command.{Command, Recorded}
use Rattle.command_words.specs.Forms.{batch_of, channel_of, check_of, command_with, compare_of, emit_of, hover_of, inspect_of, judge_of, moves_of, number_of, race_of, recorded_of, replay_of, value_of, verify_of, why_of, work_of, ◌>>=◌}
use Rattle.command_words.specs.Given.{Given}
use Rattle.command_words.specs.Names.{extra_of, needed_of}
use Rattle.command_words.specs.Options.{stands_in, values_of}
use Rattle.command_words.specs.Value.{fits, is_path, is_value, moves, number, only, path, takes}
use Rattle.command_words.proofs.Cleared.{perhaps, said}
use Rattle.command_words.proofs.Stands.{none_of, stands_values}

mapped : {A B : Type 0} (f : A → B) (x : Option A) → is_some (option_map f x) ≡ is_some x
mapped f None = refl
mapped f (Some a) = refl

-- a step and what follows it, which does not depend on its value
bound : {A B : Type 0} (x : Option A) (f : A → Option B) (p q : Bool) → is_some x ≡ p → ((a : A) → is_some (f a) ≡ q) → is_some (x >>= f) ≡ (p && q)
bound None f p q is on = rw (sym is) refl
bound (Some a) f p q is on = rw (sym is) (on a)

-- the only value, and what is made of it
one_said : (n : List ℕ) (f : List ℕ → Option (List ℕ)) (vs : List (List ℕ)) → ((v : List ℕ) → fits n v ≡ is_some (f v)) → is_some (only vs >>= f) ≡ said n vs
unfolding takes
one_said n f [] h = refl
one_said n f (v ∷ []) h = go (is_value v) refl
  where
    go : (t : Bool) → is_value v ≡ t → is_some (only (v ∷ []) >>= f) ≡ said n (v ∷ [])
    go true e = rw e (sym (h v))
    go false e = rw e refl
one_said n f (v ∷ w ∷ vs) h = refl

file_said : (n : List ℕ) (vs : List (List ℕ)) → ((v : List ℕ) → fits n v ≡ true) → is_some (only vs) ≡ said n vs
unfolding takes
file_said n [] h = refl
file_said n (v ∷ []) h = go (is_value v) refl
  where
    go : (t : Bool) → is_value v ≡ t → is_some (only (v ∷ [])) ≡ said n (v ∷ [])
    go true e = rw e (sym (h v))
    go false e = rw e refl
file_said n (v ∷ w ∷ vs) h = refl

number_said : (n : List ℕ) (low high : ℕ) (vs : List (List ℕ)) → ((v : List ℕ) → fits n v ≡ is_some (number low high v)) → is_some (only vs >>= number low high) ≡ said n vs
unfolding takes
number_said n low high [] h = refl
number_said n low high (v ∷ []) h = go (is_value v) refl
  where
    go : (t : Bool) → is_value v ≡ t → is_some (only (v ∷ []) >>= number low high) ≡ said n (v ∷ [])
    go true e = rw e (sym (h v))
    go false e = rw e refl
number_said n low high (v ∷ w ∷ vs) h = refl

path_some : (v : List ℕ) → is_path v ≡ is_some (path v)
path_some v = go (is_path v) refl
  where
    go : (t : Bool) → is_path v ≡ t → is_path v ≡ is_some (path v)
    go true e = rw e refl
    go false e = rw e refl

-- an option in brackets, which may not stand
channel_said : (n : List ℕ) (vs : List (List ℕ)) (stands : Bool) → stands ≡ not (none_of vs) → ((v : List ℕ) → fits n v ≡ is_some (number 1 64 v))
    → is_some (if stands then option_map Some (only vs >>= number 1 64) else Some None) ≡ perhaps n vs
channel_said n [] stands is h = rw is refl
channel_said n (v ∷ []) stands is h = rw is (mapped Some (only (v ∷ []) >>= number 1 64) ∙ number_said n 1 64 (v ∷ []) h)
channel_said n (v ∷ w ∷ vs) stands is h = rw is refl

moves_said : (n : List ℕ) (vs : List (List ℕ)) (stands : Bool) → stands ≡ not (none_of vs) → ((v : List ℕ) → fits n v ≡ is_some (moves v))
    → is_some (if stands then only vs >>= moves else Some false) ≡ perhaps n vs
unfolding takes
moves_said n [] stands is h = rw is refl
moves_said n (v ∷ []) stands is h = rw is (go (is_value v) refl)
  where
    go : (t : Bool) → is_value v ≡ t → is_some (only (v ∷ []) >>= moves) ≡ perhaps n (v ∷ [])
    go true e = rw e (sym (h v))
    go false e = rw e refl
moves_said n (v ∷ w ∷ vs) stands is h = rw is refl

and_true : (a : Bool) → a ≡ (a && true)
and_true true = refl
and_true false = refl

regroup : (p q r : Bool) → ((p && (q && true)) && r) ≡ (p && (q && r))
regroup true true r = refl
regroup true false r = refl
regroup false q r = refl

regroup_four : (p q r s t : Bool) → (p && (q && (r && (s && t)))) ≡ ((p && (q && (r && (s && true)))) && t)
regroup_four true true true true t = refl
regroup_four true true true false t = refl
regroup_four true true false s t = refl
regroup_four true false r s t = refl
regroup_four false q r s t = refl

-- a needed option is given as it has to be, and one in brackets
abbrev gave : List Given → List ℕ → Bool
gave os n = said n (values_of os n)

abbrev may_give : List Given → List ℕ → Bool
may_give os n = perhaps n (values_of os n)

-- the needed options of a command and those in brackets are given as they have to be
abbrev pub all_said : Name → List Given → Bool
all_said name os = list_all (λ n. said n (values_of os n)) (needed_of name) && list_all (λ n. perhaps n (values_of os n)) (extra_of name)

-- the files of a run
recorded_said : (os : List Given)
    → is_some (recorded_of (value_of os)) ≡ (said (codes "--session") (values_of os (codes "--session")) && (said (codes "--events") (values_of os (codes "--events")) && true))
unfolding recorded_of value_of fits
recorded_said os =
    bound (only (values_of os (codes "--session"))) _ _ _ (file_said (codes "--session") (values_of os (codes "--session")) (λ v. refl)) (λ a.
    bound (only (values_of os (codes "--events"))) _ _ _ (file_said (codes "--events") (values_of os (codes "--events")) (λ v. refl)) (λ b. refl))

of_recorded : (f : Recorded → Command) (os : List Given)
    → is_some (option_map f (recorded_of (value_of os))) ≡ ((said (codes "--session") (values_of os (codes "--session")) && (said (codes "--events") (values_of os (codes "--events")) && true)) && true)
of_recorded f os = mapped f (recorded_of (value_of os)) ∙ (recorded_said os ∙ and_true _)

of_stream : (f : List ℕ → Command) (os : List Given) → is_some (option_map f (value_of os (codes "--stream"))) ≡ ((said (codes "--stream") (values_of os (codes "--stream")) && true) && true)
unfolding value_of fits
of_stream f os =
    mapped f (only (values_of os (codes "--stream")))
    ∙ (file_said (codes "--stream") (values_of os (codes "--stream")) (λ v. refl) ∙ (and_true _ ∙ and_true _))

pub made : (name : Name) (os : List Given) → is_some (command_with name (value_of os) (stands_in os)) ≡ all_said name os
unfolding replay_of race_of check_of verify_of work_of batch_of hover_of emit_of inspect_of why_of judge_of compare_of number_of channel_of moves_of value_of fits
made Replay os = of_recorded _ os
made Race os = of_recorded _ os
made Check os =
    bound (recorded_of (value_of os)) _ _ _ (recorded_said os) (λ r.
    bound (only (values_of os (codes "--order"))) _ _ _ (file_said (codes "--order") (values_of os (codes "--order")) (λ v. refl)) (λ o. refl))
    ∙ (regroup (gave os (codes "--session")) (gave os (codes "--events")) (gave os (codes "--order") && true) ∙ and_true _)
made Verify os = of_stream _ os
made Work os =
    bound (only (values_of os (codes "--seed")) >>= number 0 4294967295) _ _ _ (number_said (codes "--seed") 0 4294967295 (values_of os (codes "--seed")) (λ v. refl)) (λ a.
    bound (only (values_of os (codes "--packets")) >>= number 1 200000) _ _ _ (number_said (codes "--packets") 1 200000 (values_of os (codes "--packets")) (λ v. refl)) (λ b. refl))
    ∙ and_true _
made Batch os =
    bound (only (values_of os (codes "--stream"))) _ _ _ (file_said (codes "--stream") (values_of os (codes "--stream")) (λ v. refl)) (λ a.
    bound (only (values_of os (codes "--frame")) >>= number 1 1000000000) _ _ _ (number_said (codes "--frame") 1 1000000000 (values_of os (codes "--frame")) (λ v. refl)) (λ b. refl))
    ∙ and_true _
made Hover os =
    bound (recorded_of (value_of os)) _ _ _ (recorded_said os) (λ r.
    bound (only (values_of os (codes "--mouse")) >>= path) _ _ _ (one_said (codes "--mouse") path (values_of os (codes "--mouse")) path_some) (λ o. refl))
    ∙ (regroup (gave os (codes "--session")) (gave os (codes "--events")) (gave os (codes "--mouse") && true) ∙ and_true _)
made Emit os =
    bound (only (values_of os (codes "--stream"))) _ _ _ (file_said (codes "--stream") (values_of os (codes "--stream")) (λ v. refl)) (λ a.
    bound (only (values_of os (codes "--channel")) >>= number 1 64) _ _ _ (number_said (codes "--channel") 1 64 (values_of os (codes "--channel")) (λ v. refl)) (λ b.
    bound (only (values_of os (codes "--device")) >>= number 1 8) _ _ _ (number_said (codes "--device") 1 8 (values_of os (codes "--device")) (λ v. refl)) (λ d. refl)))
    ∙ and_true _
made Inspect os = of_recorded _ os
made Why os = of_recorded _ os
made Judge os = of_stream _ os
made Compare os =
    bound (only (values_of os (codes "--want"))) _ _ _ (file_said (codes "--want") (values_of os (codes "--want")) (λ v. refl)) (λ a.
    bound (only (values_of os (codes "--got"))) _ _ _ (file_said (codes "--got") (values_of os (codes "--got")) (λ v. refl)) (λ b.
    bound (only (values_of os (codes "--us")) >>= number 0 1000000000) _ _ _ (number_said (codes "--us") 0 1000000000 (values_of os (codes "--us")) (λ v. refl)) (λ u.
    bound (only (values_of os (codes "--pixels")) >>= number 0 16384) _ _ _ (number_said (codes "--pixels") 0 16384 (values_of os (codes "--pixels")) (λ v. refl)) (λ x.
    bound (channel_of (value_of os) (stands_in os) (codes "--want-channel")) _ _ _
    (channel_said (codes "--want-channel") (values_of os (codes "--want-channel")) _ (stands_values os (codes "--want-channel")) (λ v. refl)) (λ e.
    bound (channel_of (value_of os) (stands_in os) (codes "--got-channel")) _ _ _
    (channel_said (codes "--got-channel") (values_of os (codes "--got-channel")) _ (stands_values os (codes "--got-channel")) (λ v. refl)) (λ g.
    bound (moves_of (value_of os) (stands_in os)) _ _ _
    (moves_said (codes "--moves") (values_of os (codes "--moves")) _ (stands_values os (codes "--moves")) (λ v. refl)) (λ m. refl)))))))
    ∙ regroup_four (gave os (codes "--want")) (gave os (codes "--got")) (gave os (codes "--us")) (gave os (codes "--pixels"))
    (may_give os (codes "--want-channel") && (may_give os (codes "--got-channel") && (may_give os (codes "--moves") && true)))
