-- Parts of a text, a word by its letters, digits past a bound, a row by its number, and a lane as it is stored.
use Rattle.std.proofs.Common.{◌≡◌, ℕ, ◌+◌, ◌<◌, ◌≤◌, ◌==◌, true, false, List, [], ◌∷◌, length, get_or, refl, arith, slice_index_or, ◌-◌, ◌*◌, drop, ◌&&◌, map}
use Rattle.std.proofs.Common.{All, ap, sym, subst, ◌∙◌}
use Rattle.std.proofs.lemmas.Bool.Decides.{nat_tests}
use Rattle.std.proofs.lemmas.Grind.{common_steps}
use Rattle.std.proofs.lemmas.List.{drop_more, length-map, get_or-map}
use Rattle.std.proofs.lemmas.List.Elements.{All-head, All-tail}
use Rattle.std.proofs.lemmas.Option.{slice_get-map, slice_get-get_or}
use Rattle.std.specs.Map.{lookup}
use Rattle.std.specs.Prelude.{slice_range, find, nat_eq, slice_get}
use Rattle.vss_names.specs.declared.order.Order.{Order}
use Rattle.set_agenda.specs.Agenda.{order_code}
use Rattle.writer_calls.specs.Script.{is_row_for}
use Rattle.writer_calls.specs.declared.scripted.Scripted.{Scripted}
use Rattle.scenario.specs.Bounds.{IsLane}
use Rattle.scenario.specs.Fields.{words_from, words_after, fields_of}
use Rattle.scenario.specs.Keys.{key_of, row_in, IsKeyed}
use Rattle.scenario.specs.Lines.{span_from}
use Rattle.scenario.specs.Numbers.{is_digit, value_from, in_range, capped}
use Rattle.scenario.specs.Plan.{Plan, LanePlan, lines_in}
use Rattle.scenario.specs.Rows.{lane_plan}
use Rattle.scenario.specs.declared.fields.Fields.TheVariants.{Many}
use Rattle.scenario.specs.declared.lane.Lane.{Lane}
use Rattle.scenario.specs.declared.span.Span.{Span}

-- ## A part of a text, one byte on.

pub range_more : (text : List ℕ) (at end : ℕ) → at < end → end ≤ length text → slice_range text at end ≡ get_or text at 0 ∷ slice_range text (at + 1) end
range_more text at end below within = grind (arith, drop_more)

-- a byte that is no space belongs to the word at hand
pub words_more : (text : List ℕ) (start at end : ℕ) → at < end → end ≤ length text → (get_or text at 0 == 32) ≡ false →
    words_from start at (slice_range text at end) ≡ words_from start (at + 1) (slice_range text (at + 1) end)
words_more text start at end below within other = rw (range_more text at end below within, other) refl

-- five words and more are many
pub fields_many : (a b c d e : Span) (text : List ℕ) (start at : ℕ) → fields_of (a ∷ b ∷ c ∷ d ∷ e ∷ words_from start at text) ≡ Many
fields_many a b c d e [] start at = refl
fields_many a b c d e (byte ∷ text) start at = grind (arith, common_steps, fields_many a b c d e text start (at + 1))

-- a space ends the word at hand
pub words_end : (text : List ℕ) (start at end : ℕ) → at < end → end ≤ length text → (get_or text at 0 == 32) ≡ true →
    words_from start at (slice_range text at end) ≡ span_from start at ∷ words_after text at end
words_end text start at end below within space = grind (arith, range_more)

-- ## A word by its letters.

pub four : (xs : List ℕ) (a b c d : ℕ) → 4 ≤ length xs → length xs < 5
    → slice_index_or xs 0 0 ≡ a → slice_index_or xs 1 0 ≡ b → slice_index_or xs 2 0 ≡ c → slice_index_or xs 3 0 ≡ d → a ∷ b ∷ c ∷ d ∷ [] ≡ xs
four (v ∷ w ∷ x ∷ y ∷ []) a b c d least most e f g h = rw (e, f, g, h) refl
four _ a b c d least most e f g h = absurd (omega arith)

pub five : (xs : List ℕ) (a b c d i : ℕ) → 5 ≤ length xs → length xs < 6
    → slice_index_or xs 0 0 ≡ a → slice_index_or xs 1 0 ≡ b → slice_index_or xs 2 0 ≡ c → slice_index_or xs 3 0 ≡ d → slice_index_or xs 4 0 ≡ i → a ∷ b ∷ c ∷ d ∷ i ∷ [] ≡ xs
five (x ∷ xs) a b c d i least most e f g h k = rw (← e, four xs b c d i (omega arith) (omega arith) f g h k) refl
five [] a b c d i least most e f g h k = absurd (omega arith)

-- ## Digits past a bound stay past it.

-- which value past the bound goes on does not matter
past_alike : (digits : List ℕ) (low high n m : ℕ) → high < n → high < m → in_range low high (value_from n digits) ≡ in_range low high (value_from m digits)
past_alike [] low high n m past beyond = grind (arith, nat_tests)
past_alike (byte ∷ rest) low high n m past beyond =
    let later : high < n * 10 + (byte - 48) = omega arith in let after : high < m * 10 + (byte - 48) = omega arith in
    grind (arith, common_steps, past_alike rest low high (n * 10 + (byte - 48)) (m * 10 + (byte - 48)) later after)

capped_alike : (digits : List ℕ) (low high n : ℕ) → in_range low high (value_from n digits) ≡ in_range low high (value_from (capped high n) digits)
capped_alike digits low high n = grind (arith, common_steps, past_alike)

-- one more digit
pub digit_more : (digits : List ℕ) (low high n i : ℕ) → i < length digits → is_digit (get_or digits i 0) ≡ true →
    in_range low high (value_from n (drop i digits)) ≡ in_range low high (value_from (capped high (n * 10 + (get_or digits i 0 - 48))) (drop (i + 1) digits))
digit_more digits low high n i inside digit = grind (arith, drop_more, capped_alike)

-- ## A row that is found by its number is the row for its order.

-- two numbers that are made alike are made of the same
same_key : (a n b m : ℕ) → n < 4294967296 → m < 4294967296 → nat_eq (a * 4294967296 + n) (b * 4294967296 + m) ≡ ((b == a) && (m == n))
same_key a n b m small other = grind (arith, nat_tests)

pub found : (order : Order) (nth : ℕ) (es : List (ℕ × Scripted)) → nth < 4294967296 → All IsKeyed es → lookup (nat_eq (key_of order nth)) es ≡ find (is_row_for order nth) (map row_in es)
found order nth [] small h = refl
found order nth (e ∷ es) small h =
    let first : IsKeyed e = All-head IsKeyed e es h in let fact = same_key (order_code order) nth (order_code e.1.order) e.1.nth small first.small in
    grind (arith, common_steps, found order nth es small (All-tail IsKeyed e es h))

-- ## A lane as it is stored: its lines are those of the plan, and there are few.

pub lines_at : (lanes : List Lane) (i : ℕ) (x : Lane) → i < length lanes → x ≡ get_or lanes i x → lines_in (slice_get (map lane_plan lanes) i) ≡ x.lines.items
lines_at lanes i x inside at = grind (arith, slice_get-map, slice_get-get_or)

pub few_at : (s : Plan) (lanes : List Lane) (i : ℕ) (x : Lane) → All (IsLane s) (map lane_plan lanes) → i < length lanes → x ≡ get_or lanes i x → length x.lines.items ≤ 100001
few_at s lanes i x all inside at =
    let long : i < length (map lane_plan lanes) = omega (arith, length-map lanes lane_plan) in
    let same : get_or (map lane_plan lanes) i (lane_plan x) ≡ lane_plan x = get_or-map lane_plan lanes i x (lane_plan x) inside ∙ sym (ap lane_plan at) in
    subst (λ (l : LanePlan). length l.lines ≤ 100001) same (all i (lane_plan x) long).few_lines
