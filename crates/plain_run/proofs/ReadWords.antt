-- Bytes that are text, and bytes that are not.
use Rattle.std.specs.Prelude.{IsUtf8}
use Rattle.std.proofs.lemmas.Str.{IsUtf8-from_is_utf8, is_utf8-from_IsUtf8}
use Rattle.std.proofs.Common.{◌≡◌, ℕ, Bool, List, [], true, false, refl}
use Rattle.std.specs.Str.{is_utf8}
use Rattle.plain_run.specs.Words.{word_of}

pub text_word : (bs : List ℕ) → IsUtf8 bs → bs ≡ word_of bs
text_word bs h = rw (is_utf8-from_IsUtf8 bs h) refl

pub no_word : (bs : List ℕ) → ¬ (IsUtf8 bs) → [] ≡ word_of bs
no_word bs h = go (is_utf8 bs) refl
  where
    go : (t : Bool) → is_utf8 bs ≡ t → [] ≡ word_of bs
    go true e = absurd (h (IsUtf8-from_is_utf8 bs e))
    go false e = rw e refl
