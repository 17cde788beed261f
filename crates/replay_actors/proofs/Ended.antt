-- What the seats that come back say of the history.
use Rattle.std.proofs.Common.{◌≡◌, ℕ, zero, suc, ◌+◌, ◌<◌, ◌≤◌, List, [], ◌∷◌, ◌++◌, length, min, refl, sym, ap, subst, ◌∙◌, arith, add-zero, zero-add, reverse}
use Rattle.std.proofs.lemmas.List.{length-map}
use Rattle.std.specs.Prelude.{Some, slice_get, Vec}
use Rattle.std.specs.declared.alloc.Global.{Global}
use Rattle.dispatch_calls.specs.declared.call.Call.{Call}
use Rattle.dispatch_calls.specs.declared.reply.Reply.{Reply}
use Rattle.dispatch_core.specs.Machine.{IsLegal}
use Rattle.dispatch_core.specs.Recorded.{Recorded}
use Rattle.window_snapshot.specs.Mask.{mask_has}
use Rattle.turnstile.specs.History.{Entry, calls_by}
use Rattle.turnstile.specs.Told.{EachOwns}
use Rattle.turnstile.specs.Answers.{Closes}
use Rattle.turnstile.specs.Seats.{view}
use Rattle.turnstile.specs.declared.machine.Machine.{Ghosts}
use Rattle.turnstile.specs.declared.turnstile.Seat.{Seat}
use Rattle.turnstile.specs.declared.view.Record.{Record}
use Rattle.input_service.specs.declared.service.Service.{Service}
use Rattle.session_plan.specs.declared.plan.Step.{Step}
use Rattle.replay_actors.specs.Lanes.{calls_made, receiving, receives}
use Rattle.replay_actors.specs.Raced.{Raced, OnlyOpens}
use Rattle.replay_actors.specs.Seats.{Known}
use Rattle.replay_actors.specs.Parts.{calls_of, Did, IsPart}
use Rattle.replay_actors.specs.Jobs.{AllReady, Dealt, AllEnded, AllOf, records_before, SplitOff, SameOwn}
use Rattle.replay_actors.specs.Plans.{owners_from, scripts_before, parts_of, scripted}
use Rattle.replay_actors.specs.declared.part.Lanes.{Lanes}
use Rattle.replay_actors.specs.declared.part.Part.{Part}
use Rattle.replay_actors.specs.declared.job.Job.{Job}

-- each part was done by the next number
abbrev pub AllDid : List (Entry Call Reply) → ℕ → List Part → Type 0
AllDid h n [] = Unit {0}
AllDid h n (p ∷ ps) = Did p (calls_by n h) × AllDid h (n + 1) ps

abbrev pub AllParts : List Part → Type 0
AllParts [] = Unit {0}
AllParts (p ∷ ps) = IsPart p × AllParts ps

-- the jobs may begin
pub all_ready : (s : Service) (n : ℕ) (ps : List Part) (js : List Job) → AllParts ps → Dealt s n ps js → AllReady s js
all_ready s n [] [] parts dealt = tt
all_ready s n [] (j ∷ js) parts dealt = absurd dealt
all_ready s n (p ∷ ps) [] parts dealt = absurd dealt
all_ready s n (p ∷ ps) (j ∷ js) parts dealt = (
  record { of_service = dealt.1; own = dealt.2.own; part = subst IsPart (sym dealt.0) parts.0 },
  all_ready s (n + 1) ps js parts.1 dealt.3,
)

module _ {G : Ghosts Recorded (List ℕ) Call Reply} where
  -- the seats are of the service
  pub all_of : (s : Service) (js : List Job) (es : List (Seat Recorded (List ℕ) Call Reply G)) → AllEnded s js es → AllOf s es
  all_of s [] [] ended = tt
  all_of s [] (e ∷ es) ended = absurd ended
  all_of s (j ∷ js) [] ended = absurd ended
  all_of s (j ∷ js) (e ∷ es) ended = (ended.0, all_of s js es ended.2)

  -- where each record of the seats is that of a history, each part was done in it
  pub all_did : (s : Service) (h : List (Entry Call Reply)) (others : List (Record Call Reply)) (n : ℕ) (ps : List Part) (js : List Job)
      (es : List (Seat Recorded (List ℕ) Call Reply G)) → Dealt s n ps js → AllEnded s js es → EachOwns h (records_before others es) → AllDid h n ps
  all_did s h others n [] js es dealt ended owns = tt
  all_did s h others n (p ∷ ps) [] es dealt ended owns = absurd dealt
  all_did s h others n (p ∷ ps) (j ∷ js) [] dealt ended owns = absurd ended
  all_did s h others n (p ∷ ps) (j ∷ js) (e ∷ es) dealt ended owns =
      let stays = ended.1.0 in
      let number : (view e).mine.number ≡ n = stays.number ∙ dealt.2.number_is in
      let own : (view e).mine.own ≡ calls_by n h = owns.0.own ∙ ap (λ k. calls_by k h) number in
      let did : Did p (view e).mine.own = subst (λ (q : Part). Did q (view e).mine.own) dealt.0 ended.1.1 in
      let none : (view e).joined ≡ [] = stays.joined ∙ dealt.2.joined in
      let rest : EachOwns h (records_before others es) = subst (λ rs. EachOwns h (rs ++ records_before others es)) none owns.1 in
      (subst (Did p) own did, all_did s h others (n + 1) ps js es dealt.3 ended.2 rest)

-- how many applications there are
pub owners_many : (channels finishing number n : ℕ) → length (owners_from channels finishing number n) ≡ n
owners_many channels finishing number zero = refl
owners_many channels finishing number (suc n) = ap suc (owners_many channels finishing (number + 1) n)

pub scripts_many : (others : List Part) (k : ℕ) (ss : List (Vec Step Global)) → length (scripts_before others k ss) ≡ length ss + length others
scripts_many others k [] = omega arith
scripts_many others k (s ∷ ss) = let more = scripts_many others (k + 1) ss in omega (arith, more)

pub parts_many : (l : Lanes) → length (parts_of l) ≡ 2 + length l.scripts.items + min 4 l.channels
parts_many l =
    let scripts = scripts_many (owners_from l.channels l.finishing 0 (min 4 l.channels)) 0 l.scripts.items in
    let owners = owners_many l.channels l.finishing 0 (min 4 l.channels) in
    omega (arith, scripts, owners)

-- the applications own at most 64 channels
owners_parts : (channels finishing number n : ℕ) → channels ≤ 64 → number + n ≤ 4 → AllParts (owners_from channels finishing number n)
owners_parts channels finishing number zero few fits = tt
owners_parts channels finishing number (suc n) few fits =
    ((few, omega arith), owners_parts channels finishing (number + 1) n few (omega arith))

scripts_parts : (others : List Part) (k : ℕ) (ss : List (Vec Step Global)) → AllParts others → AllParts (scripts_before others k ss)
scripts_parts others k [] rest = rest
scripts_parts others k (s ∷ ss) rest = (tt, scripts_parts others (k + 1) ss rest)

pub all_parts : (l : Lanes) → l.channels ≤ 64 → AllParts (parts_of l)
all_parts l few = (
  tt,
  (
    tt,
    scripts_parts (owners_from l.channels l.finishing 0 (min 4 l.channels)) 0 l.scripts.items
        (owners_parts l.channels l.finishing 0 (min 4 l.channels) few (omega arith)),
  ),
)

module _ (h : List (Entry Call Reply)) where
  -- each script was made by its number
  scripts_did : (others : List Part) (k n : ℕ) (ss : List (Vec Step Global)) → AllDid h n (scripts_before others k ss)
      → (l : ℕ) (steps : List Call) → slice_get (scripted ss) l ≡ Some steps → calls_made (calls_by (n + l) h) ≡ reverse steps
  scripts_did others k n [] did l steps at = absurd (cc)
  scripts_did others k n (s ∷ ss) did zero steps at =
      let same : calls_made (calls_by n h) ≡ reverse (calls_of s.items) = did.0 in
      let is : calls_of s.items ≡ steps = cc in
      rw add-zero (same ∙ ap reverse is)
  scripts_did others k n (s ∷ ss) did (suc l) steps at =
      let e : n + 1 + l ≡ n + suc l = omega arith in
      subst (λ m. calls_made (calls_by m h) ≡ reverse steps) e (scripts_did others (k + 1) (n + 1) ss did.1 l steps at)

  after_scripts : (others : List Part) (k n : ℕ) (ss : List (Vec Step Global)) → AllDid h n (scripts_before others k ss) → AllDid h (n + length ss) others
  after_scripts others k n [] did = subst (λ m. AllDid h m others) (sym (add-zero n)) did
  after_scripts others k n (s ∷ ss) did =
      let e : n + 1 + length ss ≡ n + suc (length ss) = omega arith in
      subst (λ m. AllDid h m others) e (after_scripts others (k + 1) (n + 1) ss did.1)

  -- each application was done by its number
  owners_did : (channels finishing number n count : ℕ) → AllDid h n (owners_from channels finishing number count)
      → (j : ℕ) → j < count → (c : ℕ) × (receiving (mask_has finishing) channels (number + j) (calls_by (n + j) h) ≡ receives 16384 c)
  owners_did channels finishing number n zero did j below = absurd (omega arith)
  owners_did channels finishing number n (suc count) did zero below =
      rw (add-zero number, add-zero n) did.0
  owners_did channels finishing number n (suc count) did (suc j) below =
      let e : n + 1 + j ≡ n + suc j = omega arith in
      let f : number + 1 + j ≡ number + suc j = omega arith in
      let P : ℕ → ℕ → Type 0 = λ a b. (c : ℕ) × (receiving (mask_has finishing) channels a (calls_by b h) ≡ receives 16384 c) in
      subst (λ a. P a (n + suc j)) f (subst (P (number + 1 + j)) e (owners_did channels finishing (number + 1) (n + 1) count did.1 j (omega arith)))

pub scripted_many : (ss : List (Vec Step Global)) → length (scripted ss) ≡ length ss
scripted_many ss = length-map ss (λ s. calls_of s.items)

some_same : {A : Type 0} {a b : A} → Some a ≡ Some b → a ≡ b
some_same e = cc

module _ {G : Ghosts Recorded (List ℕ) Call Reply} where
  -- what the closed core says
  pub raced : (l : Lanes) (s : Service) (js : List Job) (es : List (Seat Recorded (List ℕ) Call Reply G)) (u v w : Known) (displays : List ℕ) (h : List (Entry Call Reply))
      → u.mine.number ≡ 0 → u.mine.made ≡ 0 → OnlyOpens u.mine.own
      → Dealt s 1 (parts_of l) js → AllEnded s js es → SplitOff (length (parts_of l)) u v → SameOwn v w → w.joined ≡ records_before v.joined es
      → w.setup ≡ Some displays → Closes IsLegal w h
      → Raced displays (mask_has l.finishing) l.channels u.mine.own l.cooked.items (scripted l.scripts.items) h
  raced l s js es u v w displays h number made opens dealt ended off own joined setup closes =
      let finds = closes.finds in
      let is_zero : w.mine.number ≡ 0 = ap (λ (r : Record Call Reply). r.number) own.mine ∙ (off.number ∙ number) in
      let own_is : w.mine.own ≡ u.mine.own = ap (λ (r : Record Call Reply). r.own) own.mine ∙ off.own in
      let made_is : w.mine.made ≡ 0 + length (parts_of l) = ap (λ (r : Record Call Reply). r.made) own.mine ∙ (off.made ∙ ap (λ k. k + length (parts_of l)) made) in
      let many = parts_many l in
      let owns : EachOwns h (records_before v.joined es) = subst (EachOwns h) joined finds.own.1 in
      let did : AllDid h 1 (parts_of l) = all_did s h v.joined 1 (parts_of l) js es dealt ended owns in
      let others = owners_from l.channels l.finishing 0 (min 4 l.channels) in
      let rest : AllDid h (3 + length l.scripts.items) others = after_scripts h others 0 3 l.scripts.items did.1.1 in
      let applications : (j : ℕ) → j < min 4 l.channels
      → (c : ℕ) × (receiving (mask_has l.finishing) l.channels j (calls_by (3 + length l.scripts.items + j) h) ≡ receives 16384 c) =
      λ j below. subst (λ a. (c : ℕ) × (receiving (mask_has l.finishing) l.channels a (calls_by (3 + length l.scripts.items + j) h) ≡ receives 16384 c)) (zero-add j)
      (owners_did h l.channels l.finishing 0 (3 + length l.scripts.items) (min 4 l.channels) rest j below) in
      record {
        legal = subst (λ d. IsLegal d h) (some_same (sym finds.legal_then.1 ∙ setup)) finds.legal_then.2;
        only_opens = opens;
        opened = sym (sym own_is ∙ (finds.own.0.own ∙ ap (λ k. calls_by k h) is_zero));
        reader = did.0;
        dispatcher = did.1.0;
        scripted = scripts_did h others 0 3 l.scripts.items did.1.1;
        applications = λ j below. rw (scripted_many l.scripts.items) (applications j below);
        others = λ k above. finds.own.0.above is_zero k (let s = scripted_many l.scripts.items in omega (arith, made_is, many, s));
      }

-- there are fewer parts than numbers
pub room : (l : Lanes) (parts : List Part) (made : ℕ) → made ≡ 0 → parts ≡ parts_of l → length l.scripts.items ≤ 8 → made + length parts < 4294967295
room l parts made none is few = let many = ap (λ (ps : List Part). length ps) is ∙ parts_many l in omega (arith, none, many, few)

-- the numbers begin with 1
pub dealt_so : (s : Service) (l : Lanes) (parts : List Part) (js : List Job) (made : ℕ) → made ≡ 0 → parts ≡ parts_of l → Dealt s (made + 1) parts js → Dealt s 1 (parts_of l) js
dealt_so s l parts js made none is dealt =
    subst (λ (ps : List Part). Dealt s 1 ps js) is (subst (λ k. Dealt s (k + 1) parts js) none dealt)
