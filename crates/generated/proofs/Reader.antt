-- A line as its words, and the reader, which goes on over a text line by line.
use Rattle.std.proofs.Common.{◌≡◌, ◌∙◌, ℕ, suc, ◌+◌, ◌-◌, ◌^◌, ◌<◌, Bool, true, false, List, [], ◌∷◌, ◌++◌, length, map, take, refl, ap, ap₂, sym, subst, arith}
use Rattle.std.proofs.Common.{append_assoc, length-append}
use Rattle.std.specs.Prelude.{◌==◌, ◌&&◌, nat_le, if◌then◌else◌, slice_range, Ok, Err, Result}
use Rattle.scenario.specs.SoFar.{after}
use Rattle.scenario.specs.SoFar as saying
use Rattle.generated.proofs.Terms.{list_all, decimal, nat_tests, drop-append_seam, take-append_seam, OutOfRange, Span, is_digit, in_range, number_in}
use Rattle.generated.proofs.Terms.{is_printable, span_from, lines_from, words_from, bytes_of, both, first_of_both, second_of_both, number_back, are_digits}
use Rattle.generated.proofs.Terms.{Reason, BadByte, word_of, SoFar, Saying, nothing, plan_in, is_skipped, placed_row_of, said_of, saying_of, IsScenario}
use Rattle.generated.proofs.Terms.{goes_on, read_from, reading_of}

-- ## A line as its words: where it stands in a text, the reader finds these words, one space before each but the first.

-- ## bytes of words

-- printable, and no space
abbrev pub is_plain : ℕ → Bool
is_plain c = nat_le 33 c && nat_le c 126

abbrev pub is_word : List ℕ → Bool
is_word w = list_all is_plain w

abbrev pub are_words : List (List ℕ) → Bool
are_words ws = list_all is_word ws

plain_no_space : (c : ℕ) → is_plain c ≡ true → (c == 32) ≡ false
plain_no_space c h = grind (arith, nat_tests)

plain_printable : (c : ℕ) → is_plain c ≡ true → is_printable c ≡ true
plain_printable c h = grind (arith, nat_tests)

digit_plain : (c : ℕ) → is_digit c ≡ true → is_plain c ≡ true
digit_plain c h = grind (arith, nat_tests)

all_where : (p q : ℕ → Bool) → ((c : ℕ) → p c ≡ true → q c ≡ true) → (cs : List ℕ) → list_all p cs ≡ true → list_all q cs ≡ true
all_where p q f [] h = refl
all_where p q f (c ∷ cs) h = both (q c) (list_all q cs) (f c (first_of_both (p c) (list_all p cs) h)) (all_where p q f cs (second_of_both (p c) (list_all p cs) h))

-- a number that was written is a word
pub number_word : (n : ℕ) → n < 2 ^ 64 → is_word (decimal n) ≡ true
number_word n small = all_where is_digit is_plain digit_plain (decimal n) (are_digits n small)

-- and reads back
pub number_reads : (low high n : ℕ) → n < 2 ^ 64 → (nat_le low n && nat_le n high) ≡ true → number_in low high (decimal n) ≡ Ok n
unfolding number_in
number_reads low high n small within = ap (in_range low high) (number_back n small) ∙ ap (λ (b : Bool). if b then Ok n else Err OutOfRange) within

-- ## words in a line

abbrev pub joined : List (List ℕ) → List ℕ
joined [] = []
joined (w ∷ []) = w
joined (w ∷ v ∷ ws) = w ++ 32 ∷ joined (v ∷ ws)

abbrev pub spans_at : ℕ → List (List ℕ) → List Span
spans_at at [] = []
spans_at at (w ∷ ws) = span_from at (at + length w) ∷ spans_at (at + length w + 1) ws

none : (n : ℕ) → n ≡ n + 0
none n = omega arith

shift : (a n : ℕ) → a + 1 + n ≡ a + suc n
shift a n = omega arith

-- a word, then a space, then the rest
word_first : (start at : ℕ) (word rest : List ℕ) → is_word word ≡ true → words_from start at (word ++ 32 ∷ rest) ≡ span_from start (at + length word) ∷ words_from (at + length word + 1) (at + length word + 1) rest
word_first start at [] rest e = ap (λ (x : ℕ). span_from start x ∷ words_from (x + 1) (x + 1) rest) (none at)
word_first start at (c ∷ word) rest e =
    ap (λ (b : Bool). if b then span_from start at ∷ words_from (at + 1) (at + 1) (word ++ 32 ∷ rest) else words_from start (at + 1) (word ++ 32 ∷ rest)) (plain_no_space c (first_of_both (is_plain c) (list_all is_plain word) e))
    ∙ word_first start (at + 1) word rest (second_of_both (is_plain c) (list_all is_plain word) e)
    ∙ ap (λ (x : ℕ). span_from start x ∷ words_from (x + 1) (x + 1) rest) (shift at (length word))

last_word : (start at : ℕ) (word : List ℕ) → is_word word ≡ true → words_from start at word ≡ span_from start (at + length word) ∷ []
last_word start at [] e = ap (λ (x : ℕ). span_from start x ∷ []) (none at)
last_word start at (c ∷ word) e =
    ap (λ (b : Bool). if b then span_from start at ∷ words_from (at + 1) (at + 1) word else words_from start (at + 1) word) (plain_no_space c (first_of_both (is_plain c) (list_all is_plain word) e))
    ∙ last_word start (at + 1) word (second_of_both (is_plain c) (list_all is_plain word) e)
    ∙ ap (λ (x : ℕ). span_from start x ∷ []) (shift at (length word))

pub words_joined : (at : ℕ) (w : List ℕ) (ws : List (List ℕ)) → are_words (w ∷ ws) ≡ true → words_from at at (joined (w ∷ ws)) ≡ spans_at at (w ∷ ws)
words_joined at w [] h = last_word at at w (first_of_both (is_word w) true h)
words_joined at w (v ∷ ws) h =
    word_first at at w (joined (v ∷ ws)) (first_of_both (is_word w) (are_words (v ∷ ws)) h)
    ∙ ap (λ (xs : List Span). span_from at (at + length w) ∷ xs) (words_joined (at + length w + 1) v ws (second_of_both (is_word w) (are_words (v ∷ ws)) h))

printable_append : (xs ys : List ℕ) → list_all is_printable xs ≡ true → list_all is_printable ys ≡ true → list_all is_printable (xs ++ ys) ≡ true
printable_append [] ys h g = g
printable_append (x ∷ xs) ys h g = both (is_printable x) (list_all is_printable (xs ++ ys)) (first_of_both (is_printable x) (list_all is_printable xs) h) (printable_append xs ys (second_of_both (is_printable x) (list_all is_printable xs) h) g)

pub joined_printable : (ws : List (List ℕ)) → are_words ws ≡ true → list_all is_printable (joined ws) ≡ true
joined_printable [] h = refl
joined_printable (w ∷ []) h = all_where is_plain is_printable plain_printable w (first_of_both (is_word w) true h)
joined_printable (w ∷ v ∷ ws) h =
    printable_append w (32 ∷ joined (v ∷ ws)) (all_where is_plain is_printable plain_printable w (first_of_both (is_word w) (are_words (v ∷ ws)) h))
    (joined_printable (v ∷ ws) (second_of_both (is_word w) (are_words (v ∷ ws)) h))

-- ## parts of a text

-- the part of a text that stands after `before`
pub part_is : (text before w rest : List ℕ) → text ≡ before ++ (w ++ rest) → bytes_of text (span_from (length before) (length before + length w)) ≡ w
part_is text before w rest e =
    let len : length before + length w - length before ≡ length w = omega arith in
    ap (λ (xs : List ℕ). slice_range xs (length before) (length before + length w)) e
    ∙ ap₂ (λ (n : ℕ) (xs : List ℕ). take n xs) len (drop-append_seam before (w ++ rest))
    ∙ take-append_seam w rest

-- the parts that are these words
pub parts_are : (text before w : List ℕ) (ws : List (List ℕ)) (rest : List ℕ) → text ≡ before ++ (joined (w ∷ ws) ++ rest) → map (bytes_of text) (spans_at (length before) (w ∷ ws)) ≡ w ∷ ws
parts_are text before w [] rest e = ap (λ (x : List ℕ). x ∷ []) (part_is text before w rest e)
parts_are text before w (v ∷ ws) rest e =
    let first : text ≡ before ++ (w ++ (32 ∷ (joined (v ∷ ws) ++ rest))) = e ∙ ap (λ xs. before ++ xs) (append_assoc w (32 ∷ joined (v ∷ ws)) rest) in
    let next : text ≡ (before ++ (w ++ 32 ∷ [])) ++ (joined (v ∷ ws) ++ rest)
    = first ∙ ap (λ xs. before ++ xs) (sym (append_assoc w (32 ∷ []) (joined (v ∷ ws) ++ rest))) ∙ sym (append_assoc before (w ++ 32 ∷ []) (joined (v ∷ ws) ++ rest)) in
    let len : length (before ++ (w ++ 32 ∷ [])) ≡ length before + length w + 1 = length-append before (w ++ 32 ∷ []) ∙ ap (λ n. length before + n) (length-append w (32 ∷ [])) ∙ sum (length before) (length w) in
    ap₂ (λ (x : List ℕ) (xs : List (List ℕ)). x ∷ xs) (part_is text before w (32 ∷ (joined (v ∷ ws) ++ rest)) first)
    (subst (λ (at : ℕ). map (bytes_of text) (spans_at at (v ∷ ws)) ≡ v ∷ ws) len (parts_are text (before ++ (w ++ 32 ∷ [])) v ws rest next))
  where
    sum : (a b : ℕ) → a + (b + 1) ≡ a + b + 1
    sum a b = omega arith

-- ## lines in a text

printable_no_newline : (c : ℕ) → is_printable c ≡ true → (c == 10) ≡ false
printable_no_newline c h = grind (arith, nat_tests)

-- a line without a newline in it, then a newline, then the rest
pub line_first : (start at : ℕ) (line rest : List ℕ) → list_all is_printable line ≡ true → lines_from start at (line ++ 10 ∷ rest) ≡ record { span = span_from start (at + length line); ended = true } ∷ lines_from (at + length line + 1) (at + length line + 1) rest
line_first start at [] rest e = ap (λ (x : ℕ). record { span = span_from start x; ended = true } ∷ lines_from (x + 1) (x + 1) rest) (none at)
line_first start at (c ∷ line) rest e =
    ap (λ (b : Bool). if b then record { span = span_from start at; ended = true } ∷ lines_from (at + 1) (at + 1) (line ++ 10 ∷ rest) else lines_from start (at + 1) (line ++ 10 ∷ rest)) (printable_no_newline c (first_of_both (is_printable c) (list_all is_printable line) e))
    ∙ line_first start (at + 1) line rest (second_of_both (is_printable c) (list_all is_printable line) e)
    ∙ ap (λ (x : ℕ). record { span = span_from start x; ended = true } ∷ lines_from (x + 1) (x + 1) rest) (shift at (length line))

-- ## The reader goes on over a text line by line: each line that says something adds what it says.

-- ## what a line says

-- it says something of which this holds
pub record Says (Q : Saying → Type 0) (r : Result Saying Reason) : Type 0 where
  pub said : Saying
  pub is : r ≡ Ok said
  pub holds : Q said

-- where a line ends whose words after the first, from place `at` on, are these
abbrev pub end_of : ℕ → List (List ℕ) → ℕ
end_of at [] = at - 1
end_of at (w ∷ ws) = at + length (joined (w ∷ ws))

pub head_is : (x y : List ℕ) (xs ys : List (List ℕ)) → x ∷ xs ≡ y ∷ ys → x ≡ y
head_is x y xs ys e = cc

pub tail_is : (x y : List ℕ) (xs ys : List (List ℕ)) → x ∷ xs ≡ y ∷ ys → xs ≡ ys
tail_is x y xs ys e = cc

-- a word that is neither empty nor a comment begins no line that is skipped
goes_on_after : (c : ℕ) (cs : List ℕ) (ws : List (List ℕ)) → (c == 35) ≡ false → is_skipped (joined ((c ∷ cs) ∷ ws)) ≡ false
goes_on_after c cs ws e = grind arith

end_is : (start : ℕ) (w : List ℕ) (ws : List (List ℕ)) → start + length (joined (w ∷ ws)) ≡ end_of (start + length w + 1) ws
end_is start w [] = omega arith
end_is start w (v ∷ ws) = let len = length-append w (32 ∷ joined (v ∷ ws)) in omega (arith, len)

saying_at : (text before w : List ℕ) (ws : List (List ℕ)) (rest : List ℕ) (d : SoFar) (number : ℕ) → are_words (w ∷ ws) ≡ true → is_skipped (joined (w ∷ ws)) ≡ false → text ≡ before ++ (joined (w ∷ ws) ++ 10 ∷ rest)
    → saying_of text d number (record { span = span_from (length before) (length before + length (joined (w ∷ ws))); ended = true })
    ≡ placed_row_of text d number (end_of (length before + length w + 1) ws) (word_of w) (spans_at (length before + length w + 1) ws)
unfolding saying_of
saying_at text before w ws rest d number words skipped e =
    let whole = joined (w ∷ ws) in
    let start = length before in
    let end = start + length whole in
    ap (λ (bytes : List ℕ). if list_all is_printable bytes then (if is_skipped bytes then Ok saying.Skipped else said_of text d number end (words_from start start bytes)) else Err BadByte)
    (part_is text before whole (10 ∷ rest) e)
    ∙ ap (λ (b : Bool). if b then (if is_skipped whole then Ok saying.Skipped else said_of text d number end (words_from start start whole)) else Err BadByte) (joined_printable (w ∷ ws) words)
    ∙ ap (λ (b : Bool). if b then Ok saying.Skipped else said_of text d number end (words_from start start whole)) skipped
    ∙ ap (said_of text d number end) (words_joined start w ws words)
    ∙ ap (λ (bytes : List ℕ). placed_row_of text d number end (word_of bytes) (spans_at (start + length w + 1) ws)) (head_is _ _ _ _ (parts_are text before w ws (10 ∷ rest) e))
    ∙ ap (λ (x : ℕ). placed_row_of text d number x (word_of w) (spans_at (start + length w + 1) ws)) (end_is start w ws)

-- ## line by line

-- the text was read up to this rest
record IsAt (text rest : List ℕ) (d : SoFar) : Type 0 where
  before : List ℕ
  number : ℕ
  parts : text ≡ before ++ rest
  reads : reading_of text ≡ read_from text number d (lines_from (length before) (length before) rest)

-- the text was read up to this rest, and this holds of what was said
pub record Then (text rest : List ℕ) (P : SoFar → Type 0) : Type 0 where
  pub d : SoFar
  at : IsAt text rest d
  pub holds : P d

pub begins : (text : List ℕ) (P : SoFar → Type 0) → P nothing → Then text text P
unfolding reading_of
begins text P holds = record { d = nothing; at = record { before = []; number = 1; parts = refl; reads = refl }; holds = holds }

-- what remains to be read is the same text
pub same_rest : (text rest other : List ℕ) (P : SoFar → Type 0) → rest ≡ other → Then text rest P → Then text other P
same_rest text rest other P e i = subst (λ xs. Then text xs P) e i

-- these words as a line, and then the rest
abbrev pub line_then : List (List ℕ) → List ℕ → List ℕ
line_then ws rest = joined ws ++ 10 ∷ rest

-- one more line of words that are none of a skipped line: what it says leads from the one fact to the other
pub then_line : (text : List ℕ) (c : ℕ) (cs : List ℕ) (ws : List (List ℕ)) (rest : List ℕ) (P Q : SoFar → Type 0) → are_words ((c ∷ cs) ∷ ws) ≡ true → (c == 35) ≡ false
    → ((d : SoFar) → P d → (number at : ℕ) → map (bytes_of text) (spans_at at ws) ≡ ws → Says (λ said. Q (after d said)) (placed_row_of text d number (end_of at ws) (word_of (c ∷ cs)) (spans_at at ws)))
    → Then text (line_then ((c ∷ cs) ∷ ws) rest) P → Then text rest Q
then_line text c cs ws rest P Q words first says i =
    let w = c ∷ cs in
    let line = joined (w ∷ ws) in
    let at = i.at in
    let start = length at.before in
    let number = at.number in
    let x = says i.d i.holds number (start + length w + 1) (tail_is _ _ _ _ (parts_are text at.before w ws (10 ∷ rest) at.parts)) in
    let past : length (at.before ++ (line ++ 10 ∷ [])) ≡ start + length line + 1 = length-append at.before (line ++ 10 ∷ []) ∙ ap (λ n. start + n) (length-append line (10 ∷ [])) ∙ sum start (length line) in
    record {
      d = after i.d x.said;
      at = record {
        before = at.before ++ (line ++ 10 ∷ []);
        number = number + 1;
        parts = at.parts ∙ ap (λ xs. at.before ++ xs) (sym (append_assoc line (10 ∷ []) rest)) ∙ sym (append_assoc at.before (line ++ 10 ∷ []) rest);
        reads = at.reads
            ∙ ap (read_from text number i.d) (line_first start start line rest (joined_printable (w ∷ ws) words))
            ∙ ap (goes_on number (λ said. read_from text (number + 1) (after i.d said) (lines_from (start + length line + 1) (start + length line + 1) rest)))
            (saying_at text at.before w ws rest i.d number words (goes_on_after c cs ws first) at.parts ∙ x.is)
            ∙ ap (λ (k : ℕ). read_from text (number + 1) (after i.d x.said) (lines_from k k rest)) (sym past);
      };
      holds = x.holds;
    }
  where
    sum : (a b : ℕ) → a + (b + 1) ≡ a + b + 1
    sum a b = omega arith

-- at the end of the text, where the `scenario` line was read
pub ends : (text : List ℕ) (P : SoFar → Type 0) (i : Then text [] P) → i.d.opened ≡ true → reading_of text ≡ IsScenario (plan_in text i.d)
ends text x1 i opened = grind arith
