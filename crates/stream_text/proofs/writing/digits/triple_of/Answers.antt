use Rattle.std.proofs.Common.{◌≡◌, map, get_or, refl, ap, ◌∙◌, arith}
use Rattle.std.specs.List.{range_with_len}
use Rattle.std.proofs.lemmas.List.FromFn.{get_or-map-range_with_len}
use Rattle.stream_text.specs.Triple.{triple}
use Rattle.stream_text.specs.declared.writing.digits.TheConstants.{TRIPLES}
use Rattle.stream_text.proofs.writing.digits.triple_of.Goals as goal

table : TRIPLES ≡ map triple (range_with_len 0 1000)
table = refl

pub returns : goal.returns
returns c = ap (λ triples. get_or triples c.args.number 0) table ∙ get_or-map-range_with_len triple 0 1000 c.args.number c.args.number 0 c.requires (omega arith)
