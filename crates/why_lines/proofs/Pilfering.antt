-- The causes of a pilfer.
use Rattle.std.proofs.Common.{◌≡◌, ℕ, suc, Bool, true, false, not, cond, ◌&&◌, ◌||◌, ◌==◌, List, [], ◌∷◌, filter, refl, sym, ap, ap₂, ◌∙◌}
use Rattle.std.specs.List.{list_any}
use Rattle.std.proofs.Math.Path.{fun_ext}
use Rattle.std.proofs.lemmas.Bool.{eq-eqb}
use Rattle.std.proofs.lemmas.List.Elements.{filter-append}
use Rattle.std.proofs.lemmas.List.Folds.{list_any-append}
use Rattle.bits32.specs.Set.{is_in}
use Rattle.dispatch_calls.specs.declared.reply.Reply.{Reply}
use Rattle.dispatch_calls.specs.declared.reply.Reply.TheVariants.{Done, Gone, NotSpy, NothingHeld}
use Rattle.routing_rules.specs.Scene.{Scene}
use Rattle.routing_rules.specs.Taking.{takes, Pilfered}
use Rattle.why_text.specs.Lines.{pilfer_word, pilfer_words, refusal_word}
use Rattle.why_text.specs.Words.{below, ids_that}
use Rattle.why_lines.specs.declared.lines.channels.PilferRefused.{PilferRefused}
use Rattle.why_lines.specs.declared.lines.channels.PilferRefused.TheVariants.{Gone as IsGone, NotSpy as IsNotSpy, NothingHeld as HoldsNothing}
use Rattle.why_lines.specs.Refusals.{answer_of}
use Rattle.why_lines.specs.Lost.{ids_in}

-- some id of a set, of those below n, passes
abbrev pub some_below : (ℕ → Bool) → (set n : ℕ) → Bool
some_below p set n = list_any p (filter (λ i. is_in i set) (below n))

-- one number more
pub some_more : (p : ℕ → Bool) (set n : ℕ) → some_below p set (suc n) ≡ (some_below p set n || (is_in n set && p n))
some_more p set n =
    ap (list_any p) (filter-append (λ i. is_in i set) (below n) (n ∷ []))
    ∙ list_any-append p (filter (λ i. is_in i set) (below n)) (cond (is_in n set) (n ∷ []) [])
    ∙ ap (λ b. some_below p set n || b) (by_test (is_in n set))
  where
    or_false : (b : Bool) → (b || false) ≡ b
    or_false true = refl
    or_false false = refl

    by_test : (b : Bool) → list_any p (cond b (n ∷ []) []) ≡ (b && p n)
    by_test true = or_false (p n)
    by_test false = refl

-- all ids are below 32
pub some_in : (p : ℕ → Bool) (set : ℕ) → some_below p set 32 ≡ list_any p (ids_in set)
unfolding ids_that
some_in p set = refl

-- the ids of a set that has what passes a test
pub same_ids : (set : ℕ) (q : ℕ → Bool) → ((i : ℕ) → is_in i set ≡ q i) → ids_in set ≡ ids_that q
same_ids set q same = ap ids_that (fun_ext same)

-- the windows that lose some of the ids that a window holds are the others that hold some
each_taken : (h q : ℕ → Bool) (c d w : ℕ) (xs : List ℕ)
    → list_any (λ i. h i && takes (Pilfered c d q) w d i) (filter q xs) ≡ (not (w == c) && list_any h (filter q xs))
each_taken h q c d w [] = by_test (not (w == c))
  where
    by_test : (b : Bool) → false ≡ (b && false)
    by_test true = refl
    by_test false = refl
each_taken h q c d w (x ∷ xs) = by_pass (q x) refl (each_taken h q c d w xs)
  where
    joins : (a n r : Bool) → (a && (n && true && true) || (n && r)) ≡ (n && (a || r))
    joins true true r = refl
    joins true false r = refl
    joins false true r = refl
    joins false false r = refl

    by_pass : (b : Bool) → q x ≡ b
        → list_any (λ i. h i && takes (Pilfered c d q) w d i) (filter q xs) ≡ (not (w == c) && list_any h (filter q xs))
        → list_any (λ i. h i && takes (Pilfered c d q) w d i) (cond b (x ∷ filter q xs) (filter q xs))
        ≡ (not (w == c) && list_any h (cond b (x ∷ filter q xs) (filter q xs)))
    by_pass false e more = more
    by_pass true e more =
        ap₂ (λ a b. h x && (not (w == c) && a && b) || list_any (λ i. h i && takes (Pilfered c d q) w d i) (filter q xs)) (eq-eqb d d refl) e
        ∙ ap (λ b. h x && (not (w == c) && true && true) || b) more
        ∙ joins (h x) (not (w == c)) (list_any h (filter q xs))

pub losers_are : (s : Scene) (c d w : ℕ)
    → list_any (λ i. s.holds w d i && takes (Pilfered c d (s.holds c d)) w d i) (ids_that (s.holds c d))
    ≡ (not (w == c) && list_any (s.holds w d) (ids_that (s.holds c d)))
unfolding ids_that
losers_are s c d w = each_taken (s.holds w d) (s.holds c d) c d w (below 32)

-- a pilfer is answered by whether the channel is live, a spy, and holds something
abbrev pub reply_by : (lives spies holds : Bool) → Reply
reply_by lives spies holds = cond (not lives) Gone (cond (not spies) NotSpy (cond holds Done NothingHeld))

pub is_gone : (lives spies holds : Bool) → lives ≡ false → Gone ≡ reply_by lives spies holds
is_gone lives spies holds e = ap (λ b. reply_by b spies holds) (sym e)

pub is_no_spy : (lives spies holds : Bool) → lives ≡ true → spies ≡ false → NotSpy ≡ reply_by lives spies holds
is_no_spy lives spies holds e f = ap₂ (λ a b. reply_by a b holds) (sym e) (sym f)

pub holds_nothing : (lives spies holds : Bool) → lives ≡ true → spies ≡ true → holds ≡ false → NothingHeld ≡ reply_by lives spies holds
holds_nothing lives spies holds e f g = ap₂ (λ a b. reply_by a b false) (sym e) (sym f) ∙ ap (reply_by lives spies) (sym g)

pub is_done : (lives spies holds : Bool) → lives ≡ true → spies ≡ true → holds ≡ true → Done ≡ reply_by lives spies holds
is_done lives spies holds e f g = ap₂ (λ a b. reply_by a b true) (sym e) (sym f) ∙ ap (reply_by lives spies) (sym g)

-- a refused pilfer says why
pub refused_sent : (r : PilferRefused) (s : Scene) (c d : ℕ) → pilfer_word c d (refusal_word (answer_of r)) ≡ pilfer_words (answer_of r) s c d
refused_sent IsGone s c d = refl
refused_sent IsNotSpy s c d = refl
refused_sent HoldsNothing s c d = refl
