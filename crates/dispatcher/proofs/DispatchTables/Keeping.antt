-- The laws of what is kept of a channel, whatever was released.
use Rattle.std.proofs.Common.{◌≡◌, ℕ, ◌-◌, ◌≤◌, max, nat_le, nat_lt, Bool, true, false, not, ◌&&◌, cond, List, length, Some, None, refl, sym, ap, ◌∙◌, subst, arith}
use Rattle.std.proofs.Math.Path.{fun_ext}
use Rattle.std.specs.Prelude.{option_map}
use Rattle.dispatcher.specs.InputChannel.Order.{NoneAfter}
use Rattle.dispatcher.specs.InputChannel.State.{ChannelState, IsChannel, sent, publishable, published_at, release_of, each_released, all_released, next_of, may_finish, oldest_of}
use Rattle.dispatcher.specs.InputChannel.State.{has_late as late_at}
use Rattle.dispatch_history.specs.History.{clock, live, opened, received}
use Rattle.dispatch_history.specs.Effect.{Effect, past_of, stream}
use Rattle.dispatch_history.specs.Delivery.{able, delivery, oldest, has_late}
use Rattle.dispatch_history.specs.Due.{counts}
use Rattle.dispatch_history.specs.Reply.{receive_reply, finish_reply, got_reply}
use Rattle.dispatch_calls.specs.declared.reply.Reply.TheVariants.{Done, Gone, UnknownSeq}
use Rattle.dispatch_history.specs.Effects.{step, said_at}
use Rattle.dispatcher.specs.DispatchTables.Channel.{MayGo, Holds, Keeps, Hands, channel_at, part_of, with_part, enqueued_all, counts_of}
use Rattle.dispatcher.specs.DispatchTables.Dues.{due_moment, due_in}
use Rattle.dispatcher.specs.DispatchTables.Laws.{KeptStep, KeptReady, KeptUnopened, KeptQuiet, KeptLess, KeptFacts, ReceiveLaw, FinishLaw, OldestLaw, LateLaw, CountsLaw, DueLaw, DuesLaw}
use Rattle.dispatcher.specs.DispatchTables.Holding.{HeldLess, MayGoLaw, PassLaw}
use Rattle.dispatcher.proofs.DispatchTables.Channels.{channel_step}
use Rattle.dispatcher.proofs.DispatchTables.Kept.{none_after_clock, all_published, channel_law, ready_law, quiet_law, release_law, each_gone_law, all_gone_law}
use Rattle.dispatcher.proofs.DispatchTables.Releases.{may_go_on, most_on, received_may_go, received_most, all_may_go}
use Rattle.dispatcher.proofs.DispatchTables.Unopened.{unopened_law}
use Rattle.dispatcher.proofs.DispatchTables.Answering.{receive_law, pass_law, finish_law, oldest_law, late_law, counts_law}
use Rattle.dispatcher.proofs.DispatchTables.Duties.{due_law, quiet_due_law}

-- what holds of the channel of a history, with any number of first messages released, holds of what is kept
held : (P : ChannelState → Type 0) (es : List Effect) (c : ℕ) (s : ChannelState) → Holds es c s
    → ((gone spare : ℕ) → gone ≤ length (stream es c) → P (channel_at es c gone spare)) → P s
held P es c s k f = subst P (sym k.is) (f s.gone s.spare k.most)

holds_at : (es : List Effect) (c gone spare : ℕ) → gone ≤ length (stream es c) → Holds es c (channel_at es c gone spare)
holds_at es c gone spare most = record { is = refl; most = most }

-- the same if only messages that may be released were
kept : (P : ChannelState → Type 0) (es : List Effect) (c : ℕ) (s : ChannelState) → Keeps es c s
    → ((gone spare : ℕ) → MayGo es c gone → P (channel_at es c gone spare)) → P s
kept P es c s k f = subst P (sym k.is) (f s.gone s.spare k.may_go)

keeps_at : (es : List Effect) (c gone spare : ℕ) → MayGo es c gone → Keeps es c (channel_at es c gone spare)
keeps_at es c gone spare may = record { is = refl; may_go = may }

-- what is kept so is held
pub held_of : (es : List Effect) (c : ℕ) (s : ChannelState) → Keeps es c s → Holds es c s
held_of es c s k = record { is = k.is; most = k.may_go.of_all }

pub kept_step : KeptStep
kept_step ds call answer es c s l k =
    let later = step ds call answer es in
    let now = clock (past_of later) in
    let bs = said_at ds call answer es c in
    held (λ t. Holds later c (published_at now (enqueued_all bs now (with_part (part_of call answer c) t)))) es c s k (λ gone spare most.
    subst (Holds later c) (channel_step ds call answer es c gone spare l most)
    (holds_at later c gone (spare - length (said_at ds call answer es c)) (most_on ds call answer es c gone l most)))

pub kept_ready : KeptReady
kept_ready ds call answer es c s bodies l k =
    let now = clock (past_of (step ds call answer es)) in
    held (λ t. NoneAfter now (enqueued_all bodies now (with_part (part_of call answer c) t)).unfinished) es c s k
    (λ gone spare most. ready_law ds call answer es c gone spare bodies l)

pub kept_unopened : KeptUnopened
kept_unopened ds es c l lt = subst (Holds es c) (unopened_law ds es c l lt) (holds_at es c 0 0 (omega arith))

pub kept_quiet : KeptQuiet
kept_quiet ds call answer es c s l k none untouched =
    let later = step ds call answer es in
    held (Holds later c) es c s k (λ gone spare most.
    subst (Holds later c) (quiet_law ds call answer es c gone spare l most none untouched)
    (holds_at later c gone spare (most_on ds call answer es c gone l most)))

pub may_go_law : MayGoLaw
may_go_law ds call answer es c gone l may = may_go_on ds call answer es c gone l may

pub kept_less : KeptLess
kept_less ds es c s l k = (
  kept (λ t. Keeps es c (release_of t)) es c s k (λ gone spare may.
      subst (Keeps es c) (sym (release_law es c gone spare))
      (keeps_at es c (max gone (received (past_of es) c)) spare (received_may_go ds es c gone l may))),
  λ n. record { is = ap {A = ChannelState} (λ t. record t { spare = max n s.spare }) k.is; may_go = k.may_go },
  λ dead.
      kept (λ t. Keeps es c (all_released t)) es c s k (λ gone spare may.
      subst (Keeps es c) (sym (all_gone_law ds es c gone spare l may.of_all))
      (keeps_at es c (length (stream es c)) 0 (all_may_go es c dead))),
)

pub held_less : HeldLess
held_less ds es c s l k = (
  held (λ t. Holds es c (release_of t)) es c s k (λ gone spare most.
      subst (Holds es c) (sym (release_law es c gone spare))
      (holds_at es c (max gone (received (past_of es) c)) spare (received_most ds es c gone l most))),
  λ n. record { is = ap {A = ChannelState} (λ t. record t { spare = max n s.spare }) k.is; most = k.most },
  held (λ t. Holds es c (each_released t)) es c s k (λ gone spare most.
      subst (Holds es c) (sym (each_gone_law ds es c gone spare l most))
      (holds_at es c (length (stream es c)) spare (omega arith))),
  held (λ t. Holds es c (all_released t)) es c s k (λ gone spare most.
      subst (Holds es c) (sym (all_gone_law ds es c gone spare l most))
      (holds_at es c (length (stream es c)) 0 (omega arith))),
)

pub kept_facts : KeptFacts
kept_facts ds es c s l k =
    let facts =
    held (λ t. IsChannel t × (sent t ≡ length (stream es c)) × (publishable t ≡ t.published)) es c s k
    (λ gone spare most. channel_law ds es c gone spare l most) in (
      facts.0,
      facts.1,
      λ now. all_published now s facts.2,
      λ now old.
          held (λ t. NoneAfter now t.unfinished) es c s k (λ gone spare most. none_after_clock ds es c gone spare now l old),
    )

pub kept_receive : ReceiveLaw
kept_receive ds es c s l k =
    kept (λ t. receive_reply es c ≡ cond (not (live (past_of es) c)) Gone (got_reply (next_of t))) es c s k
    (λ gone spare may. receive_law ds es c gone spare may.of_live)

pub kept_pass : PassLaw
kept_pass ds es c s l k lives =
    held (λ t. Hands (nat_lt t.received t.published) (receive_reply es c)) es c s k (λ gone spare most. pass_law ds es c l lives)

pub kept_finish : FinishLaw
kept_finish ds es c seq s l k =
    held (λ t. finish_reply es c seq ≡ cond (not (live (past_of es) c)) Gone (cond (may_finish seq t) Done UnknownSeq)) es c s k
    (λ gone spare most. finish_law ds es c gone spare seq l)

pub kept_oldest : OldestLaw
kept_oldest es c s k =
    held (λ t. oldest_of t ≡ option_map {U = ℕ × ℕ} (λ m. (m.seq, delivery es c m.seq)) (oldest es c)) es c s k
    (λ gone spare most. oldest_law es c gone spare)

pub kept_late : LateLaw
kept_late es c s k = held (λ t. late_at (clock (past_of es)) t ≡ has_late es c) es c s k (λ gone spare most. late_law es c gone spare)

pub kept_counts : CountsLaw
kept_counts ds es c s l k =
    held (λ t. counts es c ≡ cond (nat_le 1 c && nat_le c (opened (past_of es))) (Some (counts_of (live (past_of es) c) t)) None) es c s k
    (λ gone spare most. counts_law ds es c gone spare l most)

pub kept_due : DueLaw
kept_due es c s k = held (λ t. due_moment es c ≡ due_in (able es c) t) es c s k (λ gone spare most. due_law es c gone spare)

-- the whole table of dues
pub dues_law : DuesLaw
dues_law ds call answer es changed before later channels l e quiet keeps is = fun_ext (λ c. is c ∙ by_change c (changed c) refl)
  where
    by_change : (c : ℕ) (b : Bool) → changed c ≡ b
        → cond (changed c) (due_in (able (step ds call answer es) c) (channels c)) (before c)
        ≡ due_moment (step ds call answer es) c
    by_change c true f =
        ap (λ b. cond b (due_in (able (step ds call answer es) c) (channels c)) (before c)) f ∙ sym (kept_due (step ds call answer es) c (channels c) (keeps c f))
    by_change c false f =
        let q = quiet c f in
        ap (λ b. cond b (due_in (able (step ds call answer es) c) (channels c)) (before c)) f
        ∙ ap (λ due. due c) e
        ∙ sym (quiet_due_law ds call answer es c l q.0 q.1 q.2)
