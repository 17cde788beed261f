-- What was written, one call later.
use Rattle.std.proofs.Common.{◌≡◌, ℕ, ◌+◌, ◌^◌, ◌-◌, ◌≤◌, ◌<◌, ◌++◌, List, [], ◌∷◌, length, min, nat_lt, true, false, Vec, refl, sym, ap, ◌∙◌, arith}
use Rattle.std.proofs.lemmas.List.{append_assoc, append-nil}
use Rattle.std.specs.Prelude.{codes, decimal, Result, Ok, Err, IfOk, OnOk}
use Rattle.std.specs.declared.alloc.Global.{Global}
use Rattle.motion_batch.specs.Data.{BatchData}
use Rattle.motion_batch.specs.declared.item.Item.{Item}
use Rattle.motion_batch.specs.declared.item.Item.TheVariants.{One, Batch}
use Rattle.motion_batch.specs.declared.sample.Sample.{Sample}
use Rattle.motion_batch.specs.Calls.{Call, RowsStandFor, added, flushed, framed, items}
use Rattle.batch_text.specs.declared.batches.Batches.{Batches}
use Rattle.batch_text.specs.Frames.{last_frame, latest, with_frame}
use Rattle.batch_text.specs.Lines.{batch_line, count_line, first_seq, item_line, item_lines, items_text, last_seq, one_line}
use Rattle.batch_text.specs.Writing.{Writes, Written}

lines_append : (is js : List Item) → item_lines (is ++ js) ≡ item_lines is ++ item_lines js
lines_append [] js = refl
lines_append (i ∷ is) js = ap (λ t. item_line i ++ t) (lines_append is js) ∙ sym (append_assoc (item_line i) (item_lines is) (item_lines js))

length_append : (is js : List Item) → length (is ++ js) ≡ length is + length js
length_append [] js = omega arith
length_append (i ∷ is) js = let e = length_append is js in omega (arith, e)

bytes_append : (cs bs : List ℕ) → length (cs ++ bs) ≡ length cs + length bs
bytes_append [] bs = omega arith
bytes_append (c ∷ cs) bs = let e = bytes_append cs bs in omega (arith, e)

-- each line has a byte
item_byte : (i : Item) → 1 ≤ length (item_line i)
unfolding one_line batch_line
item_byte (One m) = omega arith
item_byte (Batch b) = omega arith

lines_bytes : (is : List Item) → length is ≤ length (item_lines is)
lines_bytes [] = omega arith
lines_bytes (i ∷ is) = omega (arith, item_byte i, lines_bytes is, bytes_append (item_line i) (item_lines is))

more_lines : (text before given all new : List ℕ) → text ++ given ≡ before ++ all → text ++ (given ++ new) ≡ before ++ (all ++ new)
more_lines text before given all new e = sym (append_assoc text given new) ∙ ap (λ t. t ++ new) e ∙ append_assoc before all new

-- a call returned, and its items must still be written
pub more_given : (calls : List Call) (call : Call) (before text : List ℕ) (b : Batches) (rows : List (List Sample)) (moment shown : ℕ) (given : Vec Item Global)
    → Writes calls before b text → RowsStandFor (call ∷ calls) rows → moment ≡ latest (call ∷ calls) → shown ≡ last_frame (call ∷ calls)
    → given.items ≡ b.given.items ++ added call calls
    → Writes (call ∷ calls) before (record { batcher = rows; latest = moment; shown = shown; count = b.count; given = given }) text
more_given calls call before text b rows moment shown given w stands latest_is shown_is more =
    record {
      stands = stands;
      latest_is = latest_is;
      shown_is = shown_is;
      items_are = ap (λ is. text ++ item_lines is) more
          ∙ ap (λ t. text ++ t) (lines_append b.given.items (added call calls))
          ∙ more_lines text before (item_lines b.given.items) (item_lines (items calls)) (item_lines (added call calls)) w.items_are
          ∙ ap (λ t. before ++ t) (sym (lines_append (items calls) (added call calls)));
      count_is = omega (arith, ap length more, length_append b.given.items (added call calls), length_append (items calls) (added call calls), w.count_is);
      few = w.few;
    }

-- what was released is written
pub items_written : (calls : List Call) (before text written : List ℕ) (b : Batches) (count : ℕ) (given : Vec Item Global) → Writes calls before b text
    → written ≡ text ++ item_lines b.given.items → length written < 2 ^ 64 → count ≡ min (b.count + length b.given.items) (2 ^ 64 - 1) → given.items ≡ []
    → Written calls before (record { batcher = b.batcher; latest = b.latest; shown = b.shown; count = count; given = given }) written
items_written calls before text written b count given w e bound counts none =
    let size : length written ≡ length text + length (item_lines b.given.items) = ap length e ∙ bytes_append text (item_lines b.given.items) in
    let all : count ≡ b.count + length b.given.items = omega (arith, counts, bound, size, w.few, lines_bytes b.given.items) in
    record {
      writes = record {
        stands = w.stands;
        latest_is = w.latest_is;
        shown_is = w.shown_is;
        items_are = ap (λ is. written ++ item_lines is) none ∙ append-nil written ∙ e ∙ w.items_are;
        count_is = omega (arith, all, ap length none, w.count_is);
        few = omega (arith, all, size, w.few, lines_bytes b.given.items);
      };
      none = none;
    }

-- the last line of a section, behind all items
pub count_behind : (calls : List Call) (before text : List ℕ) (b : Batches) → Written calls before b text
    → text ++ count_line b.count ≡ before ++ items_text (items calls)
count_behind calls before text b w =
    let none : text ≡ before ++ item_lines (items calls) =
    sym (append-nil text) ∙ sym (ap (λ is. text ++ item_lines is) w.none) ∙ w.writes.items_are in
    let count : b.count ≡ length (items calls) = omega (arith, w.writes.count_is, ap length w.none) in
    ap (λ t. t ++ count_line b.count) none
    ∙ append_assoc before (item_lines (items calls)) (count_line b.count)
    ∙ ap (λ n. before ++ (item_lines (items calls) ++ count_line n)) count

-- a frame above the last one, and one that is not
pub with_frame_above : (at : ℕ) (calls : List Call) → nat_lt (last_frame calls) at ≡ true → with_frame at calls ≡ framed at ∷ calls
with_frame_above at calls e = rw e refl

pub with_frame_below : (at : ℕ) (calls : List Call) → nat_lt (last_frame calls) at ≡ false → with_frame at calls ≡ calls
with_frame_below at calls e = rw e refl

-- a flush was answered
pub flush_given : {T E : Type 0} (r : Result T E) (calls : List Call) (before text : List ℕ) (b : Batches) (rows : List (List Sample)) (given : Vec Item Global)
    → Writes calls before b text → OnOk r (RowsStandFor (flushed ∷ calls) rows) → OnOk r (given.items ≡ b.given.items ++ added flushed calls)
    → OnOk r (Writes (flushed ∷ calls) before (record { batcher = rows; latest = b.latest; shown = b.shown; count = b.count; given = given }) text)
flush_given (Ok x) calls before text b rows given w stands more = more_given calls flushed before text b rows b.latest b.shown given w stands w.latest_is w.shown_is more
flush_given (Err e) calls before text b rows given w stands more = tt

-- the last part of a text was written
pub last_written : {T E : Type 0} (r : Result T E) (new old line all : List ℕ) → old ++ line ≡ all → IfOk r (λ x. new ≡ old ++ line) → OnOk r (new ≡ all)
last_written (Ok x) new old line all e h = h ∙ e
last_written (Err x) new old line all e h = tt

regrouped : (t a b c d e f g h i : List ℕ)
    → ((((t ++ (a ++ b)) ++ (c ++ d)) ++ (e ++ f)) ++ (g ++ h)) ++ i ≡ t ++ ((((((((a ++ b) ++ c) ++ d) ++ e) ++ f) ++ g) ++ h) ++ i)
regrouped t a b c d e f g h i = simp append_assoc

-- the parts of the line of a batch, one after another
pub batch_parts : (b : BatchData) (t p q r s : List ℕ) → p ≡ t ++ (codes "batch " ++ decimal (first_seq b.samples)) → q ≡ p ++ (codes "-" ++ decimal (last_seq b.samples))
    → r ≡ q ++ (codes " " ++ decimal b.device) → s ≡ r ++ (codes " " ++ decimal (length b.samples)) → s ++ codes "\n" ≡ t ++ batch_line b
unfolding batch_line
batch_parts b t p q r s first last device count =
    ap (λ x. x ++ codes "\n") (count ∙ ap (λ x. x ++ (codes " " ++ decimal (length b.samples))) (device ∙ ap (λ x. x ++ (codes " " ++ decimal b.device)) (last ∙ ap (λ x. x ++ (codes "-" ++ decimal (last_seq b.samples))) first)))
    ∙ regrouped t (codes "batch ") (decimal (first_seq b.samples)) (codes "-") (decimal (last_seq b.samples)) (codes " ") (decimal b.device) (codes " ")
    (decimal (length b.samples))
    (codes "\n")
