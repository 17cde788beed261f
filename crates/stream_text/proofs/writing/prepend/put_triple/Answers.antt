use Rattle.std.proofs.Common.{◌≡◌, ◌+◌, ◌-◌, arith}
use Rattle.stream_text.proofs.Triples.{bytes, four_put, last_of}
use Rattle.stream_text.proofs.writing.prepend.put_triple.Goals as goal

pub returns-clause-count : goal.returns-clause-count
returns-clause-count c = (bytes c.args.number c.triple_of-triple.result c.requires.0 c.triple_of-triple.ensures).0

pub returns-clause-three : goal.returns-clause-three
returns-clause-three c =
    let (count, hundreds, tens, ones) = bytes c.args.number c.triple_of-triple.result c.requires.0 c.triple_of-triple.ensures in
    let end = c.args.end in
    let behind : end - 3 + 3 ≡ end = omega arith in
    rw (
      four_put c.args.line.now (end - 4) (end - 3) (end - 4 + 1) (end - 4 + 2) (end - 4 + 3) _ _ _ _ (omega arith) (omega arith) (omega arith) (omega arith) (omega (arith, c.told-line)),
      hundreds,
      tens,
      ones,
      behind,
    )

pub returns-clause-exact : goal.returns-clause-exact
returns-clause-exact c =
    let count = (bytes c.args.number c.triple_of-triple.result c.requires.0 c.triple_of-triple.ensures).0 in
    rw count (last_of c.args.number c.args.end _ _ c.requires.0 c.requires.1 (rw count at (returns-clause-three c)))
