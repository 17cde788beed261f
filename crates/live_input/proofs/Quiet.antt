-- A client whose window is shown as a wall is sent nothing more.
use Rattle.std.proofs.Common.{◌≡◌, ℕ, false, List, [], ◌∷◌, map, refl, ap, ◌∙◌}
use Rattle.window_snapshot.specs.declared.window.Window.{Window}
use Rattle.window_snapshot.specs.Named.{is_named}
use Rattle.dispatch_calls.specs.declared.call.Call.{Call}
use Rattle.dispatch_calls.specs.declared.call.Call.TheVariants.{Windows}
use Rattle.dispatch_history.specs.Effect.{Effect, past_of, sent_on, stream}
use Rattle.dispatch_history.specs.History.{clock, snapshot, windows_after}
use Rattle.dispatch_history.specs.Legal.{answered}
use Rattle.dispatch_history.specs.Ordered.{extend}
use Rattle.dispatch_history.specs.Reply.{reply_to}
use Rattle.dispatcher.specs.DispatchTables.Lawful.{Lawful}
use Rattle.dispatcher.proofs.DispatchTables.Channels.{sound, stepped}
use Rattle.dispatcher.proofs.DispatchTables.Lawfuls.{lawful_step}
use Rattle.live_input.specs.Limit.{walled}
use Rattle.live_input.specs.LimitLaws.{NoneShows, QuietLaw}
use Rattle.live_input.specs.Windows.{window_of}
use Rattle.live_input.proofs.Draining.{hidden_law}
use Rattle.live_input.proofs.Silence.{sent_nothing}

-- after the first call it has no window either
still_hidden : (c : ℕ) (call : Call) (calls : List Call) (ws : List Window) → NoneShows c (call ∷ calls) → is_named ws c ≡ false
    → (is_named (windows_after call ws) c ≡ false) × NoneShows c calls
still_hidden c (Windows now vs) calls ws none hidden = none
still_hidden c call calls ws none hidden = (hidden, none)

pub all_quiet : (ds : List ℕ) (es : List Effect) (c : ℕ) (calls : List Call) → Lawful ds es → is_named (snapshot (past_of es)) c ≡ false → NoneShows c calls
    → stream (extend ds es calls) c ≡ stream es c
all_quiet ds es c [] l hidden none = refl
all_quiet ds es c (k ∷ ks) l hidden none =
    let answer = reply_to es k in
    let later = lawful_step ds k answer es l refl in
    let x = still_hidden c k ks (snapshot (past_of es)) none hidden in
    all_quiet ds (answered ds k es) c ks later x.0 x.1
    ∙ (stepped ds k answer es c later (sound ds es c l)).stream_is
    ∙ ap (λ bs. sent_on (clock ((k, answer) ∷ past_of es)) bs (stream es c)) (sent_nothing ds k answer es c later hidden x.0)

-- and it has none after all of them
pub all_hidden : (ds : List ℕ) (es : List Effect) (c : ℕ) (calls : List Call) → is_named (snapshot (past_of es)) c ≡ false → NoneShows c calls
    → is_named (snapshot (past_of (extend ds es calls))) c ≡ false
all_hidden ds es c [] hidden none = hidden
all_hidden ds es c (k ∷ ks) hidden none =
    let x = still_hidden c k ks (snapshot (past_of es)) none hidden in all_hidden ds (answered ds k es) c ks x.0 x.1

pub quiet_law : QuietLaw
quiet_law ds es now choked c ws calls l has none =
    let call = Windows now (map window_of (walled choked ws)) in
    all_quiet ds (answered ds call es) c calls (lawful_step ds call (reply_to es call) es l refl) (hidden_law choked ws c has) none
