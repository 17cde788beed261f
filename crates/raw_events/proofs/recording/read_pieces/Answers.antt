use Rattle.std.proofs.Common.{◌≡◌, ◌+◌, ◌++◌, [], drop, refl, add-one, drop-cons}
use Rattle.std.specs.List.{flat_map}
use Rattle.std.proofs.lemmas.Result.{err_from_is_err_and}
use Rattle.std.proofs.lemmas.List.{drop_all}
use Rattle.raw_events.specs.Line.{known}
use Rattle.raw_events.specs.Recording.{recorded}
use Rattle.raw_events.proofs.Reading.{nothing_in_front}
use Rattle.raw_events.proofs.Cuts.{piece_read, begun_there, piece_refused, end_read, end_refused}
use Rattle.raw_events.proofs.recording.read_pieces.Goals as goal

pub loop-piece-init : goal.loop-piece-init
unfolding recorded
loop-piece-init c = record {
  read = rw (c.new-events.ensures.items, c.in_ok-reader.ensures) (nothing_in_front _);
  begun = rw (c.in_ok-reader.ensures) refl;
}

pub loop-piece-preserved : goal.loop-piece-preserved
loop-piece-preserved c =
    let left : flat_map (λ piece. piece.items) (drop c.loop-piece.piece-index c.args.pieces.now) ≡ c.deref.result.now ++ flat_map (λ piece. piece.items) (drop (c.loop-piece.piece-index + 1) c.args.pieces.now) =
    rw (c.deref.ensures.value, add-one, drop-cons c.args.pieces.now c.loop-piece.piece-index c.piece-item.result c.loop-piece-test.true, ← c.piece-item.is) refl in
    record {
      read = piece_read c.loop-piece.reader c.feed.new.self c.loop-piece.events.items c.feed.new.out.items _ c.deref.result.now (flat_map (λ piece. piece.items) (drop (c.loop-piece.piece-index + 1) c.args.pieces.now))
          c.in_ok-feed.ensures (rw left at c.loop-piece.invariant.read);
      begun = begun_there c.loop-piece.reader c.feed.new.self c.loop-piece.events.items c.feed.new.out.items (recorded (known c.args.paths.items) []) c.deref.result.now c.in_ok-feed.ensures;
    }

pub returns-in_err-feed : goal.returns-in_err-feed
returns-in_err-feed c =
    let p = err_from_is_err_and c.from_residual-in_err-feed.result c.from_residual-in_err-feed.ensures.1 in
    let left : flat_map (λ piece. piece.items) (drop c.loop-piece.piece-index c.args.pieces.now) ≡ c.deref.result.now ++ flat_map (λ piece. piece.items) (drop (c.loop-piece.piece-index + 1) c.args.pieces.now) =
    rw (c.deref.ensures.value, add-one, drop-cons c.args.pieces.now c.loop-piece.piece-index c.piece-item.result c.loop-piece-test.true, ← c.piece-item.is) refl in
    rw (p.1, p.2)
    (piece_refused c.loop-piece.reader c.feed.new.self c.loop-piece.events.items c.feed.new.out.items _ c.deref.result.now (flat_map (λ piece. piece.items) (drop (c.loop-piece.piece-index + 1) c.args.pieces.now))
    c.in_err-feed.field-0.0 c.in_err-feed.ensures (rw left at c.loop-piece.invariant.read))

pub returns-in_err-finish : goal.returns-in_err-finish
returns-in_err-finish c =
    let p = err_from_is_err_and c.from_residual-in_err-finish.result c.from_residual-in_err-finish.ensures.1 in
    let none : drop c.loop-piece.piece-index c.args.pieces.now ≡ [] = drop_all c.loop-piece.piece-index c.args.pieces.now c.loop-piece-test.false in
    rw (p.1, p.2)
    (end_refused c.loop-piece.reader c.finish.new.self c.loop-piece.events.items c.finish.new.out.items _ c.in_err-finish.field-0.0 c.loop-piece.invariant.begun c.in_err-finish.ensures (rw none at c.loop-piece.invariant.read))

pub returns : goal.returns
returns c =
    let none : drop c.loop-piece.piece-index c.args.pieces.now ≡ [] = drop_all c.loop-piece.piece-index c.args.pieces.now c.loop-piece-test.false in
    end_read c.loop-piece.reader c.finish.new.self c.loop-piece.events.items c.finish.new.out.items _ c.loop-piece.invariant.begun c.in_ok-finish.ensures (rw none at c.loop-piece.invariant.read)
