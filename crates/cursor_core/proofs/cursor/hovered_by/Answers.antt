-- A window that is live and on display 0 is in the mask of those that are live and the mask of those on display 0.
use Rattle.std.proofs.Common.{ℕ, Bool, ◌&&◌, ◌||◌, bit_and, ◌==◌, sym, ◌∙◌, ap}
use Rattle.std.proofs.Math.Path.{fun_ext}
use Rattle.window_snapshot.specs.Hits.{touched}
use Rattle.window_snapshot.specs.Mask.{is_channel, mask_has}
use Rattle.window_snapshot.specs.Named.{is_shown_on}
use Rattle.window_snapshot.specs.Walls.{reaches, wall_on}
use Rattle.cursor_core.specs.Calls.{channel_of, hovered_by}
use Rattle.cursor_core.proofs.Masks.{live_of}
use Rattle.cursor_core.proofs.cursor.hovered_by.Goals as goal

pub returns : goal.returns
returns c =
    c.channel_of.ensures
    ∙ ap channel_of c.touched_at.ensures
    ∙ ap (λ (f : ℕ → Bool). channel_of (touched c.args.windows.now f c.args.at.x c.args.at.y))
    (fun_ext (λ k. ap (λ y. reaches (record { channels = bit_and c.args.live c.on.result; display = y }) k) c.zero-display.ensures
    ∙ ap (λ b. b || k == wall_on 0) (live_of c.args.live c.on.result k (is_shown_on c.args.windows.now 0 k)
    (c.on.ensures k ∙ ap (λ y. is_channel k && is_shown_on c.args.windows.now y k) c.zero-display.ensures))))
    ∙ ap (λ b. hovered_by b c.args.windows.now (mask_has c.args.live) c.args.at) (sym c.if-not-moved.false)
