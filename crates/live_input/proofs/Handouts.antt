-- Which message is received next, and by whom.
use Rattle.std.proofs.Common.{◌≡◌, ℕ, zero, suc, ◌≤◌, ◌<◌, ◌&&◌, min, Bool, true, false, cond, List, length, Option, Some, None, Ok, refl, sym, ap, ap₂, ◌∙◌, subst, inl, inr, arith}
use Rattle.std.specs.Prelude.{is_some, ◌-◌, ◌^◌}
use Rattle.std.proofs.lemmas.Bool.{cases_Bool, cases_eq, cases_lt, eq-eqb, true≢false}
use Rattle.input_types.specs.declared.message.Message.{Message}
use Rattle.dispatch_calls.specs.declared.call.Call.TheVariants.{Receive}
use Rattle.dispatch_history.specs.Effect.{Effect, past_of}
use Rattle.dispatch_history.specs.History.{opened}
use Rattle.dispatch_history.specs.Reply.{reply_to}
use Rattle.dispatcher.specs.Access.{got}
use Rattle.dispatcher.proofs.DispatchTables.Ables.{opened_few}
use Rattle.window_snapshot.specs.Mask.{is_channel}
use Rattle.live_input.specs.declared.client.Client.{Client}
use Rattle.live_input.specs.declared.client.Seat.{Seat}
use Rattle.live_input.specs.declared.next_any.First.{First}
use Rattle.live_input.specs.declared.next_any.Handed.{Handed}
use Rattle.live_input.specs.declared.next_any.Place.{Place}
use Rattle.live_input.specs.Answers.{for_client, handed}
use Rattle.live_input.specs.HandingOut.{HandsOut, handed_as}
use Rattle.live_input.specs.Receiving.{receives}
use Rattle.live_input.specs.Order.{IsReady, first_of, is_before, is_last, next_any, place, placed, sooner}
use Rattle.live_input.specs.OrderLaws.{ClientsLaw, EarliestLaw, NotAfter}
use Rattle.live_input.specs.Seats.{client_at, client_of, is_held, is_of, is_open, seat_of}
use Rattle.live_input.specs.Standing.{LiveIs}
use Rattle.live_input.specs.State.{LiveState}
use Rattle.live_input.proofs.Noting.{channel_is}
use Rattle.live_input.proofs.Outgoing.{live_lawful}
use Rattle.live_input.proofs.Received.{receiving_few}
use Rattle.live_input.proofs.Ordering.{got_published, below, none_first, before_true, before_false}

-- the one that comes first is one of the channels, and its message is there
record IsFirst (es : List Effect) (n : ℕ) (f : First) : Type 0 where
  pub low : 1 ≤ f.channel
  pub high : f.channel ≤ n
  pub there : place es f.channel ≡ Some f.place
  pub least : (c : ℕ) (q : Place) → 1 ≤ c → c ≤ n → place es c ≡ Some q → NotAfter f.channel f.place c q

equal_places : (c : ℕ) (p q : Place) (d : ℕ) → c ≤ d → Some p ≡ Some q → NotAfter c p d q
equal_places c p q d le e =
    let same : p ≡ q = cc in
    inr (ap (λ (x : Place). x.step) same, inr (ap (λ (x : Place). x.rank) same, le))

-- a place before one that is not after a third is not after that
then_before : (e : ℕ) (p : Place) (c : ℕ) (m : Place) (d : ℕ) (q : Place) → is_before p m ≡ true → NotAfter c m d q → NotAfter e p d q
then_before e p c m d q b n =
    elim (before_true p m b) [
      | inl lt ↦ elim n [ inl x ↦ inl (omega (arith, lt, x)) | inr x ↦ let y = x.0 in inl (omega (arith, lt, y)) ]
      | inr lt ↦ elim n [
        | inl x ↦ let y = lt.0 in inl (omega (arith, y, x))
        | inr x ↦ elim x.1 [
          | inl z ↦ let y = lt.1 in inr (lt.0 ∙ x.0, inl (omega (arith, y, z)))
          | inr z ↦ let y = lt.1 in let w = z.0 in inr (lt.0 ∙ x.0, inl (omega (arith, y, w)))
        ]
      ]
    ]

first_is : (es : List Effect) (n : ℕ) (f : First) → first_of es n ≡ Some f → IsFirst es n f
first_is es zero f e = absurd cc
first_is es (suc n) f e = by_parts (λ g eg. first_is es n g eg) (first_of es n) (place es (suc n)) refl refl e
  where
    by_parts : ((g : First) → first_of es n ≡ Some g → IsFirst es n g) → (g : Option First) (p : Option Place) → first_of es n ≡ g → place es (suc n) ≡ p → sooner g (suc n) p ≡ Some f → IsFirst es (suc n) f
    by_parts ih None None eg ep e = absurd cc
    by_parts ih (Some g) None eg ep e =
        let same : g ≡ f = cc in
        let x = ih f (eg ∙ ap Some same) in
        record {
          low = x.low;
          high = let h = x.high in omega (arith, h);
          there = x.there;
          least = λ c q low high at. elim (cases_eq c (suc n)) [
            | inl k ↦ absurd (none_some (sym ep ∙ ap (place es) (sym k) ∙ at))
            | inr ne ↦ x.least c q low (below c n high ne) at
          ];
        }
      where
        none_some : {q : Place} → None ≡ Some q → ⊥
        none_some e = cc
    by_parts ih None (Some p) eg ep e =
        let same : record { channel = suc n; place = p } ≡ f = cc in
        subst (IsFirst es (suc n)) same
        (record {
          low = omega arith;
          high = omega arith;
          there = ep;
          least = λ c q low high at. elim (cases_eq c (suc n)) [
            | inl k ↦ equal_places (suc n) p q c (omega (arith, k)) (sym ep ∙ ap (place es) (sym k) ∙ at)
            | inr ne ↦ absurd (none_some (sym (none_first es n eg c low (below c n high ne)) ∙ at))
          ];
        })
      where
        none_some : {q : Place} → None ≡ Some q → ⊥
        none_some e = cc
    by_parts ih (Some g) (Some p) eg ep e = by_test (is_before p g.place) refl e
      where
        by_test : (b : Bool) → is_before p g.place ≡ b → cond b (Some (record { channel = suc n; place = p })) (Some g) ≡ Some f → IsFirst es (suc n) f
        by_test true t e =
            let same : record { channel = suc n; place = p } ≡ f = cc in
            let x = ih g eg in
            subst (IsFirst es (suc n)) same
            (record {
              low = omega arith;
              high = omega arith;
              there = ep;
              least = λ c q low high at. elim (cases_eq c (suc n)) [
                | inl k ↦ equal_places (suc n) p q c (omega (arith, k)) (sym ep ∙ ap (place es) (sym k) ∙ at)
                | inr ne ↦ then_before (suc n) p g.channel g.place c q t (x.least c q low (below c n high ne) at)
              ];
            })
        by_test false t e =
            let same : g ≡ f = cc in
            let x = ih g eg in
            subst (IsFirst es (suc n)) same
            (record {
              low = x.low;
              high = let h = x.high in omega (arith, h);
              there = x.there;
              least = λ c q low high at. elim (cases_eq c (suc n)) [
                | inl k ↦ later c q k (sym ep ∙ ap (place es) (sym k) ∙ at) x.high
                | inr ne ↦ x.least c q low (below c n high ne) at
              ];
            })
          where
            later : (c : ℕ) (q : Place) → c ≡ suc n → Some p ≡ Some q → g.channel ≤ n → NotAfter g.channel g.place c q
            later c q k e le =
                let is : p ≡ q = cc in
                subst (λ x. NotAfter g.channel g.place c x) is
                (elim (before_false p g.place t) [
                  | inl lt ↦ inl lt
                  | inr y ↦ elim (cases_eq g.place.rank p.rank) [
                    | inl z ↦ inr (sym y.0, inr (z, omega (arith, le, k)))
                    | inr ne ↦ let w = y.1 in inr (sym y.0, inl (omega (arith, w, ne)))
                  ]
                ])

pub earliest_law : EarliestLaw
earliest_law es f c q e low high at = (first_is es (opened (past_of es)) f e).least c q low high at

-- a channel with a message is held
some_message : (es : List Effect) (c : ℕ) (o : Option Message) (p : Place) → placed es c o ≡ Some p → (m : Message) × (o ≡ Some m)
some_message es c None p e = absurd cc
some_message es c (Some m) p e = (m, refl)

pub record IsThere (es : List Effect) (seats : List Seat) (f : First) : Type 0 where
  pub low : 1 ≤ f.channel
  pub high : f.channel ≤ 64
  pub held : is_held (seat_of seats f.channel) ≡ true
  pub message : Message
  pub message_is : got (reply_to es (Receive f.channel)) ≡ Some message

pub first_there : (ds : List ℕ) (es : List Effect) (s : LiveState) (f : First) → LiveIs ds es s → next_any es ≡ Some f → IsThere es s.seats f
first_there ds es s f h e =
    let x = first_is es (opened (past_of es)) f e in
    let l = live_lawful ds es s h in
    let few = opened_few ds es l in
    let most = x.high in
    let m = some_message es f.channel (got (reply_to es (Receive f.channel))) f.place x.there in
    record {
      low = x.low;
      high = omega (arith, few, most);
      held = elim (cases_Bool (is_held (seat_of s.seats f.channel))) [
        | inl y ↦ y
        | inr n ↦
            let done = (h.tenants_are.left f.channel x.low x.high n).received_all in
            let there = (got_published es f.channel m.0 m.1).1 in
            absurd (omega (arith, done, there))
      ];
      message = m.0;
      message_is = m.1;
    }

-- the client of a channel that is held
pub record IsClient (seats : List Seat) (c : ℕ) (k : Client) : Type 0 where
  pub at : client_at seats c ≡ Some k
  pub channel_is : k.channel ≡ c
  pub open_is : is_open seats k ≡ true

client_open : (seats : List Seat) (c : ℕ) (k : Client) → is_channel c ≡ true → client_at seats c ≡ Some k → IsClient seats c k
client_open seats c k is e = by_holder (seat_of seats c).holder refl e
  where
    by_holder : (o : Option ℕ) → (seat_of seats c).holder ≡ o → client_of c o ≡ Some k → IsClient seats c k
    by_holder None eo e = absurd cc
    by_holder (Some g) eo e =
        let same : record { channel = c; generation = g } ≡ k = cc in
        let there : is_open seats (record { channel = c; generation = g }) ≡ true =
        ap₂ (λ a o. a && is_of g o) is eo ∙ eq-eqb g g refl in
        record {
          at = ap (client_of c) eo ∙ ap Some same;
          channel_is = ap (λ (x : Client). x.channel) (sym same);
          open_is = subst (λ x. is_open seats x ≡ true) same there;
        }

pub clients_law : ClientsLaw
clients_law ds es h old new is x =
    let t = first_there ds es old x.first is x.first_is in
    let k = client_open old.seats x.first.channel h.client (channel_is x.first.channel t.low t.high) x.client_is in (
      k.open_is,
      subst (λ c. handed (seat_of old.seats c) (got (reply_to es (Receive c))) ≡ Some h.message) (sym k.channel_is) x.message_is,
    )

-- what the service finds on the first channel is its client
pub client_found : (ds : List ℕ) (es : List Effect) (s : LiveState) (f : First) (k : Client) → LiveIs ds es s → next_any es ≡ Some f
    → Some k ≡ cond (is_channel f.channel) (client_at s.seats f.channel) None → IsClient s.seats f.channel k
client_found ds es s f k h first e =
    let t = first_there ds es s f h first in
    let is = channel_is f.channel t.low t.high in
    client_open s.seats f.channel k is (sym (e ∙ ap (λ b. cond b (client_at s.seats f.channel) None) is))

pub none_found : (ds : List ℕ) (es : List Effect) (s : LiveState) (f : First) → LiveIs ds es s → next_any es ≡ Some f
    → None ≡ cond (is_channel f.channel) (client_at s.seats f.channel) None → ⊥
none_found ds es s f h first e =
    let t = first_there ds es s f h first in
    let is = channel_is f.channel t.low t.high in
    by_holder (seat_of s.seats f.channel).holder t.held (e ∙ ap (λ b. cond b (client_at s.seats f.channel) None) is)
  where
    by_holder : (o : Option ℕ) → is_some o ≡ true → None ≡ client_of f.channel o → ⊥
    by_holder None held e = true≢false (sym held)
    by_holder (Some g) held e = cc

-- all together
pub hands_out : (ds : List ℕ) (es : List Effect) (old new : LiveState) (f : First) (k : Client) (m : Option Message) (r : Option Handed)
    → LiveIs ds es old → next_any es ≡ Some f → IsClient old.seats f.channel k
    → m ≡ handed (seat_of old.seats k.channel) (got (reply_to es (Receive k.channel)))
    → LiveIs ds (receives ds es old k.channel) new
    → r ≡ handed_as k (is_last (receives ds es old k.channel) f) m
    → HandsOut ds es (Ok r) old new
hands_out ds es old new f k m r h first client message is result =
    let t = first_there ds es old f h first in
    let c = client.channel_is in
    let got_is = subst (λ n. m ≡ handed (seat_of old.seats n) (got (reply_to es (Receive n)))) c message in
    let after = subst (λ n. LiveIs ds (receives ds es old n) new) c is in
    let given = subst (λ n. r ≡ handed_as k (is_last (receives ds es old n) f) m) c result in
    let seat = seat_of old.seats f.channel in
    let last = is_last (receives ds es old f.channel) f in
    let y = for_client seat t.message in
    let is_y : m ≡ Some y = got_is ∙ ap (handed seat) t.message_is in
    let is_r : r ≡ Some (record { client = k; message = y; last = last }) = given ∙ ap (handed_as k last) is_y in
    subst (λ a. HandsOut ds es (Ok a) old new) (sym is_r)
    (record { first = f; first_is = first; client_is = client.at; message_is = ap (handed seat) t.message_is; last_is = refl; is = after })

-- what is kept stands for the history, before a call and after one
fewer : (made n : ℕ) → made ≡ min n (2 ^ 64 - 1) → (made ≡ 2 ^ 64 - 1 → ⊥) → n < 2 ^ 64 - 1
fewer made n is e =
    elim (cases_lt n (2 ^ 64 - 1)) [
      | inl lt ↦ lt
      | inr le ↦ absurd (e (omega (arith, is, le)))
    ]

pub ready_now : (ds : List ℕ) (es : List Effect) (s : LiveState) → LiveIs ds es s → (s.steps.made ≡ 2 ^ 64 - 1 → ⊥)
    → IsReady es s.dispatcher s.steps
ready_now ds es s h e =
    let few = fewer s.steps.made (length es) h.steps_are.made_is e in
    record { stands = h.stands; steps_are = h.steps_are; counted = omega (arith, few) }

pub ready_then : (ds : List ℕ) (es : List Effect) (s t : LiveState) (c : ℕ) → LiveIs ds es s → (s.steps.made ≡ 2 ^ 64 - 1 → ⊥)
    → LiveIs ds (receives ds es s c) t → IsReady (receives ds es s c) t.dispatcher t.steps
ready_then ds es s t c h e after =
    let few = fewer s.steps.made (length es) h.steps_are.made_is e in
    record {
      stands = after.stands;
      steps_are = after.steps_are;
      counted = receiving_few ds (seat_of s.seats c) s.clock c es (omega (arith, few));
    }
