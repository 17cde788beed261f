-- Each step puts one code into its place.
use Rattle.std.proofs.Common.{◌∙◌, arith, refl, length-set}
use Rattle.std.proofs.lemmas.Bool.{cases_eq}
use Rattle.key_layout.proofs.Low.{one_more}
use Rattle.key_layout.proofs.layout.low_codes.Goals as goal

pub loop-scan-init : goal.loop-scan-init
loop-scan-init c = record { whole = refl; each = λ j lt. absurd (omega (arith, lt)) }

pub loop-scan-preserved : goal.loop-scan-preserved
loop-scan-preserved c = record {
  whole = length-set c.loop-scan.low c.loop-scan.scan c.code_in.result ∙ c.loop-scan.invariant.whole;
  each = λ j lt. one_more c.args.codes.now.entries c.loop-scan.low c.loop-scan.scan j c.code_in.result
      (omega (arith, c.loop-scan.invariant.whole, c.loop-scan-test.true)) c.code_in.ensures (c.loop-scan.invariant.each j) lt (cases_eq j c.loop-scan.scan);
}

pub returns : goal.returns
returns c = record {
  whole = c.loop-scan.invariant.whole;
  each = λ scan lt. c.loop-scan.invariant.each scan (omega (arith, lt, c.loop-scan-test.false));
}
