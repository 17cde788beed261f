-- What a round leaves of the messages that were released.
use Rattle.std.proofs.Common.{◌≡◌, ℕ, List, [], ◌∷◌, map, refl, ap, ◌∙◌, inl, inr}
use Rattle.std.proofs.lemmas.Bool.{cases_Bool}
use Rattle.input_types.specs.declared.message.Body.{Body}
use Rattle.window_snapshot.specs.Mask.{mask_has}
use Rattle.dispatcher.specs.InputChannel.State.{ChannelState, enqueued}
use Rattle.dispatcher.specs.DispatchTables.Channel.{enqueued_all}
use Rattle.dispatcher.specs.DispatchChannels.FromOrigin.{body_from}
use Rattle.dispatcher.specs.DispatchChannels.Table.{channel_of}
use Rattle.dispatcher.specs.DispatchRound.Outgoing.{origin_at}
use Rattle.dispatcher.specs.RoundLaws.{GoneLaw}

enqueued_gone : (bs : List Body) (now : ℕ) (s : ChannelState) → (enqueued_all bs now s).gone ≡ s.gone
enqueued_gone [] now s = refl
enqueued_gone (b ∷ bs) now s = enqueued_gone bs now (enqueued b now s)

pub gone_law : GoneLaw
gone_law changed outgoing origins now p u sends c from =
    elim (cases_Bool (mask_has changed c)) [
      | inl y ↦
          ap (λ s. s.gone) (sends.changes c y)
          ∙ enqueued_gone (map (body_from (origin_at origins c)) (outgoing c)) now (channel_of p c)
      | inr n ↦ ap (λ s. s.gone) (sends.stays c from n).0
    ]
