-- One more piece, and the end.
use Rattle.std.proofs.Common.{◌≡◌, ◌∙◌, ◌+◌, ℕ, List, length, ap, refl, sym, subst, arith, rules}
use Rattle.std.proofs.lemmas.List.{length-append}
use Rattle.command_files.proofs.Readings.{gives_on, none_gives}
use Rattle.command_files.proofs.files.feed_all.Goals as goal

pub returns-then-count-eq0-clause-ok : goal.returns-then-count-eq0-clause-ok
returns-then-count-eq0-clause-ok g c =
    let one = c.in_ok-count.ensures.fed in
    let given : List ℕ = (g.S.Source.reading c.pieces.source).given in
    subst (λ (xs : List ℕ). g.T.Taker.takes c.args.beside.now c.args.taker.now c.feed_piece.new.taker xs) (sym one.given)
    (g.met.T.Taker.more c.args.beside.now c.args.taker.now c.pieces.taker c.feed_piece.new.taker given one.piece c.pieces.invariant.takes one.done)

pub pieces-init : goal.pieces-init
pieces-init g c =
    record {
      size = sym (ap length c.requires.unread);
      within = omega arith;
      buffer = c.in_ok-buffer.ensures;
      gives = none_gives (g.S.Source.left c.args.source.now) (g.S.Source.reading c.args.source.now) c.requires.going;
      later = omega arith;
      going = c.requires.going;
      loan = refl;
      takes = subst (λ (xs : List ℕ). g.T.Taker.takes c.args.beside.now c.args.taker.now c.args.taker.now xs) (sym c.requires.unread)
          (g.met.T.Taker.none c.args.beside.now c.args.taker.now);
    }

pub pieces-preserved : goal.pieces-preserved
pieces-preserved g c =
    let one = c.in_ok-count.ensures.fed in
    let before = c.pieces.invariant in
    let given : List ℕ = (g.S.Source.reading c.pieces.source).given in
    let size : length (g.S.Source.reading c.feed_piece.new.source).given ≡ length given + length one.piece = ap length one.given ∙ length-append given one.piece in
    record {
      size = omega (arith, size, before.size, one.size);
      within = search rules;
      buffer = search rules;
      gives = gives_on _ _ _ _ (g.S.Source.reading c.pieces.source) _ before.gives c.in_ok-count.ensures.gives;
      later = omega (arith, before.later, c.in_ok-count.ensures.later);
      going = c.in_ok-count.ensures.going (omega (arith, c.if-count-eq0.false));
      loan = c.in_ok-count.ensures.loan ∙ before.loan;
      takes = subst (λ (xs : List ℕ). g.T.Taker.takes c.args.beside.now c.args.taker.now c.feed_piece.new.taker xs) (sym one.given)
          (g.met.T.Taker.more c.args.beside.now c.args.taker.now c.pieces.taker c.feed_piece.new.taker given one.piece before.takes one.done);
    }
