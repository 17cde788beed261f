-- The two routers follow the same steps and send the same.
use Rattle.std.proofs.Common.{ℕ, zero, suc, Bool, true, false, ◌==◌, ◌≤◌, ◌<◌, ◌-◌, ◌^◌, nat_le, ◌≡◌, List, [], ◌∷◌, ◌++◌, filter, refl, sym, ap, ap₂, ◌∙◌, if◌then◌else◌, subst, cond, inl, inr, arith}
use Rattle.std.specs.List.{list_any}
use Rattle.std.proofs.lemmas.Bool.{both_ways, and_from, or_cases, or_left, or_right, eqb-true, le-leb}
use Rattle.input_types.specs.declared.motion.Motion.{Motion}
use Rattle.input_types.specs.declared.pointer.Pointer.{Pointer}
use Rattle.input_types.specs.Gestures.{ids_of}
use Rattle.window_snapshot.specs.Mask.{is_channel}
use Rattle.routing_rules.specs.Taking.{takes, pilfers}
use Rattle.routing_rules.specs.Scene.{Scene, Step, Moves, Resets, Pilfers, Shows, Mutes, Removes, NoOp}
use Rattle.routing_rules.specs.Given.{mark}
use Rattle.routing_rules.specs.Outgoing.{outgoing, sent_all}
use Rattle.route_plain.specs.State.{scene_before}
use Rattle.route_plain.specs.Route.{to_channel, said_up_to}
use Rattle.route_plain.proofs.Following.{start_law as plain_start, turn_law as plain_turn, scene_law as plain_scene}
use Rattle.route_split.specs.declared.sends.Sends.{Sends}
use Rattle.route_split.specs.declared.sends.Sends.TheVariants.{Nothing, One, Cancels}
use Rattle.route_split.specs.Tables.{is_device, ChangesAll}
use Rattle.route_split.specs.Marking.{gives, taking}
use Rattle.route_split.specs.Sending.{IsSent}
use Rattle.route_split.proofs.FollowingLaws.{start_law as split_start, step_law as split_step, scene_law as split_scene}
use Rattle.router_cases.specs.Joining.{StartLaw, SceneLaw, StepLaw, ListedLaw, Answers, motions_of, is_asked, word, words}

pub start_law : StartLaw
start_law ts fresh = record { marks = []; count = refl; plain = plain_start; split = split_start ts fresh }

pub scene_law : SceneLaw
scene_law n st ts windows live able j =
    let same = plain_scene j.marks st windows live able j.plain in
    split_scene j.marks ts _ j.split
    (record {
      holds_are = ap (λ s. s.holds) same;
      any_are = ap (λ s. s.any) same;
      earlier_are = ap (λ s. s.earlier) same;
      pilfering_are = ap (λ s. s.pilfering) same;
    })

-- an answer stands for its motions
motions_are : (r : Sends) (ms : List Motion) (d : ℕ) (last : List Pointer) (before : ℕ → Bool) → IsSent r ms d last before → ms ≡ motions_of r d last before
motions_are Nothing ms d last before h = h
motions_are (One m) ms d last before h = h
motions_are (Cancels lost) ms d last before h = h

-- what is sent for a device is what the answer says
one_asked : (b : Bool) (ms ns : List Motion) → (b ≡ true → ms ≡ ns) → (b ≡ false → ms ≡ []) → ms ≡ (if b then ns else [])
one_asked true ms ns f g = f refl
one_asked false ms ns f g = g refl

not_asked : (s : Scene) (e : Step) (w d : ℕ) → is_asked e d ≡ false → outgoing s e w d ≡ []
not_asked s (Moves m) w d h = rw h refl
not_asked s (Resets c) w d h = absurd (both_ways true h refl)
not_asked s (Pilfers v c) w d h = absurd (both_ways true h refl)
not_asked s (Shows stays) w d h = absurd (both_ways true h refl)
not_asked s (Mutes muted) w d h = absurd (both_ways true h refl)
not_asked s (Removes v) w d h = absurd (both_ways true h refl)
not_asked s NoOp w d h = absurd (both_ways true h refl)

word_is : (s : Scene) (e : Step) (answer : ℕ → ℕ → Sends) (w d : ℕ) → Answers s e answer → is_channel w ≡ true → is_device d ≡ true → outgoing s e w d ≡ word s e answer w d
word_is s e answer w d a c v =
    one_asked (is_asked e d) (outgoing s e w d) (motions_of (answer w d) d (s.last d) (s.holds w d))
    (λ h. motions_are (answer w d) (outgoing s e w d) d (s.last d) (s.holds w d) (a w d c v h))
    (not_asked s e w d)

-- what a window is sent, device by device
words_are : (s : Scene) (e : Step) (answer : ℕ → ℕ → Sends) (w : ℕ) → Answers s e answer → is_channel w ≡ true → sent_all s e w ≡ words s e answer w
words_are s e answer w a c =
    let same : (d : ℕ) → is_device d ≡ true → outgoing s e w d ≡ word s e answer w d = λ d v. word_is s e answer w d a c v in
    rw (same 1 refl, same 2 refl, same 3 refl, same 4 refl, same 5 refl, same 6 refl, same 7 refl, same 8 refl) refl

-- what windows are sent up to one
said_same : (f g : ℕ → List Motion) (n : ℕ) → n ≤ 64 → ((w : ℕ) → is_channel w ≡ true → f w ≡ g w) → said_up_to f n ≡ said_up_to g n
unfolding said_up_to
said_same f g zero le same = refl
said_same f g (suc c) le same =
    let below : c ≤ 64 = omega (arith, le) in
    let one : 1 ≤ suc c = omega arith in
    let channel : is_channel (suc c) ≡ true = and_from (nat_le 1 (suc c)) (nat_le (suc c) 64) (le-leb 1 (suc c) one) (le-leb (suc c) 64 le) in
    ap₂ (λ xs ys. xs ++ to_channel (suc c) ys) (said_same f g c below same) (same (suc c) channel)

pub step_law : StepLaw
step_law n st ts us windows live able e k answer j lt m ch a =
    let s = scene_before st windows live able in (
      said_same (sent_all s e) (words s e answer) 64 (omega arith) (λ w c. words_are s e answer w a c),
      record {
        marks = mark s e ∷ j.marks;
        count = ap suc j.count;
        plain = plain_turn j.marks st s e (subst (λ x. x < 2 ^ 64 - 1) (sym j.count) lt) j.plain;
        split = split_step j.marks (mark s e) ts us k j.split m
            (subst (λ x. ChangesAll ts us (gives k) (takes (taking ts k)) x (pilfers (taking ts k))) (sym j.count) ch);
      },
    )

-- an id of a list is one of its test
pub in_filter : (test : ℕ → Bool) (i : ℕ) (ids : List ℕ) → test i ≡ true → list_any (λ j. j == i) ids ≡ true → list_any (λ j. j == i) (filter test ids) ≡ true
in_filter test i [] t h = h
in_filter test i (x ∷ xs) t h =
    elim (or_cases (x == i) (list_any (λ j. j == i) xs) h) [
      | inl e ↦ let is : test x ≡ true = ap test (eqb-true x i e) ∙ t in rw is (or_left (x == i) _ e)
      | inr r ↦ kept (test x) (in_filter test i xs t r)
    ]
  where
    kept : (b : Bool) → list_any (λ j. j == i) (filter test xs) ≡ true → list_any (λ j. j == i) (cond b (x ∷ filter test xs) (filter test xs)) ≡ true
    kept true r = or_right (x == i) _ r
    kept false r = r

from_filter : (test : ℕ → Bool) (i : ℕ) (ids : List ℕ) → list_any (λ j. j == i) (filter test ids) ≡ true → list_any (λ j. j == i) ids ≡ true
from_filter test i [] h = h
from_filter test i (x ∷ xs) h = kept (from_filter test i xs) (test x) h
  where
    kept : (list_any (λ j. j == i) (filter test xs) ≡ true → list_any (λ j. j == i) xs ≡ true)
        → (b : Bool) → list_any (λ j. j == i) (cond b (x ∷ filter test xs) (filter test xs)) ≡ true → list_any (λ j. j == i) (x ∷ xs) ≡ true
    kept more true r =
        elim (or_cases (x == i) (list_any (λ j. j == i) (filter test xs)) r) [
          | inl e ↦ or_left (x == i) _ e
          | inr q ↦ or_right (x == i) _ (more q)
        ]
    kept more false r = or_right (x == i) _ (more r)

from_ids : (i : ℕ) (ps : List Pointer) → list_any (λ j. j == i) (ids_of ps) ≡ true → list_any (λ p. p.id == i) ps ≡ true
from_ids i [] h = h
from_ids i (p ∷ ps) h =
    elim (or_cases (p.id == i) (list_any (λ j. j == i) (ids_of ps)) h) [
      | inl e ↦ or_left (p.id == i) _ e
      | inr r ↦ or_right (p.id == i) _ (from_ids i ps r)
    ]

pub listed_law : ListedLaw
listed_law s d down f w i h =
    from_ids i (s.last d)
    (from_filter (s.holds w d) i (ids_of (s.last d))
    (ap (list_any (λ j. j == i)) (f.held_is_listed w) ∙ in_filter (s.holds w d) i down h (f.held_is_down w i h)))
