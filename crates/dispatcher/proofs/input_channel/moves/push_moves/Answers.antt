use Rattle.std.proofs.Common.{◌≡◌, ◌++◌, ◌∷◌, [], length, set, get_or, sym, ap, ◌∙◌}
use Rattle.std.proofs.lemmas.List.{get_or_push}
use Rattle.input_types.specs.declared.message.Body.TheVariants.{Motion as MotionBody}
use Rattle.input_types.specs.declared.message.Message.{Message}
use Rattle.dispatcher.specs.InputChannel.Moves.{moves_from}
use Rattle.dispatcher.proofs.InputChannel.Moving.{set_last}
use Rattle.dispatcher.proofs.input_channel.moves.push_moves.Goals as goal

pub returns : goal.returns
returns c =
    let xs = c.args.list.now.items in
    let m : Message = record { seq = c.args.seq; moment = c.args.moment; body = MotionBody c.still.result } in
    let long : c.len-place.result ≡ length xs = c.len-place.ensures ∙ c.args.list.now.ok.0 in
    let at : c.index_mut.result.now ≡ m =
    c.index_mut.ensures.value
    ∙ ap (λ ms. get_or ms c.len-place.result c.index_mut.result.now) c.push_reserved.ensures.items
    ∙ get_or_push xs m c.index_mut.result.now c.len-place.result (sym long) in
    let filled =
    c.fill.ensures
    ∙ ap (λ (x : Message). let y : Message = record x { body = moves_from c.args.origin c.args.device c.args.flags c.args.pointers.now } in y) at in
    record {
      items =
          ap (λ ms. set ms c.len-place.result c.fill.new.message) c.push_reserved.ensures.items
          ∙ ap (λ k. set (xs ++ m ∷ []) k c.fill.new.message) long
          ∙ set_last xs m c.fill.new.message
          ∙ ap (λ y. xs ++ y ∷ []) filled;
      len = c.push_reserved.ensures.len;
      capacity = c.push_reserved.ensures.capacity;
    }
