-- What `compare` answers for two stream files.
use Rattle.std.specs.Prelude.{◌≡◌, ℕ, Bool, List, Option, Result, Ok, Err}
use Rattle.compare_text.specs.declared.comparison.Comparison.{Comparison}
use Rattle.compare_text.specs.declared.error.CompareError.{CompareError}
use Rattle.compare_text.specs.declared.error.CompareError.TheVariants.{Differs, Missing, Added, NoSection, NewSection, Memory}
use Rattle.compare_text.specs.Compared.{compared}
use Rattle.compare_text.specs.Points.{Section}
use Rattle.command_files.specs.Inputs.{got_file}
use Rattle.command_files.specs.Judged.{Answer, Ends, Origin, Reads}
use Rattle.command_files.specs.Refused.{not_same}
use Rattle.command_files.specs.declared.refusal.Refusal.{Refusal}
use Rattle.command_files.specs.declared.refusal.Refusal.TheVariants as refusal
use Rattle.command_files.specs.declared.refusal.StreamError.TheVariants as stream

-- that two stream files agree, or where they do not
abbrev pub same_answer : Result (List ℕ) CompareError → Answer
same_answer (Ok text) = Ok text
same_answer (Err error) = Err (not_same error)

-- what the options of `compare` ask for
abbrev pub comparison : (us pixels : ℕ) → (want_channel got_channel : Option ℕ) → (each_move : Bool) → Comparison
comparison us pixels want_channel got_channel each_move = record {
  tolerance = record { us = us; pixels = pixels };
  want_channel = want_channel;
  got_channel = got_channel;
  each_move = each_move;
}

-- whether actual sections agree with the expected ones
abbrev pub SameAnswers : Comparison → (want got : List Section) → Answer → Type 0
SameAnswers rule want got a = same_answer (compared rule want got) ≡ a

-- the answer once the expected streams are accepted: the actual ones are judged, and then compared with them
abbrev pub GotAnswers : List ℕ → Comparison → Origin → List Section → Answer → Type 0
GotAnswers got rule from want a = Reads from got got_file (λ rest came. Ends (SameAnswers rule want came) rest) a

-- the refusal for streams that are compared
abbrev pub refusal_of_compare : CompareError → Refusal
refusal_of_compare (Differs want got what) = refusal.Stream (stream.NotSame (Differs want got what))
refusal_of_compare (Missing want) = refusal.Stream (stream.NotSame (Missing want))
refusal_of_compare (Added got) = refusal.Stream (stream.NotSame (Added got))
refusal_of_compare (NoSection want) = refusal.Stream (stream.NotSame (NoSection want))
refusal_of_compare (NewSection got) = refusal.Stream (stream.NotSame (NewSection got))
refusal_of_compare Memory = refusal.NoMemory
