-- The states of the writers and each kind of reply, as they are told, are read as such.
use Rattle.std.proofs.Common.{◌≡◌, ℕ, zero, suc, ◌+◌, ◌<◌, List, [], ◌∷◌, ◌++◌, length, drop, get_or, refl, arith, ◌∙◌, ◌-◌, Bool, false, true, Option, ap, sym}
use Rattle.std.proofs.Common.{find, subst, map, Some, None}
use Rattle.std.proofs.lemmas.Grind.{common_steps}
use Rattle.std.proofs.lemmas.List.{append_assoc, append-nil}
use Rattle.std.proofs.lemmas.List.Elements.{All-head, All-tail}
use Rattle.std.proofs.lemmas.Option.{slice_get-get_or}
use Rattle.std.specs.Fmt.{decimal}
use Rattle.std.specs.List.{range_with_len, list_all, concat}
use Rattle.std.specs.Prelude.{slice_get, codes, ◌&&◌, All, if◌then◌else◌}
use Rattle.std.specs.Str.{bytes_eq}
use Rattle.hex.specs.Hex.{encode_with, IsBytes, encode_lower}
use Rattle.vss_names.specs.Context as context
use Rattle.vss_names.specs.Names.{is_name}
use Rattle.vss_names.specs.VssResult as result
use Rattle.vss_names.specs.WriterState as state
use Rattle.vss_names.specs.declared.context.Context.{Context}
use Rattle.vss_names.specs.declared.vss_result.VssResult.{VssResult}
use Rattle.vss_names.specs.declared.writer_error.WriterError.{WriterError}
use Rattle.vss_names.specs.declared.writer_state.WriterState.{WriterState}
use Rattle.vss_names.proofs.LookUps.{state_of_name-name_of}
use Rattle.block_data.specs.BlockBytes.{sha256}
use Rattle.write_history.specs.declared.mark.Mark.{Mark}
use Rattle.write_history.specs.declared.mark.Mark.TheVariants.{Clean, Fault, FaultAfter}
use Rattle.writer_state.specs.WriterState.{is_failed}
use Rattle.writer_state.specs.declared.writer_row.WriterRow.{WriterRow}
use Rattle.scenario.specs.Plan.{Plan, WriterPlan, token}
use Rattle.vss_model.specs.Reply.{Reply, Fine, Faulted, FaultedAfter, Numbered, Coded, NotSelectable, BlockOf, BlocksOf, KeptSets, PropertiesOf, Deleted}
use Rattle.vss_model.specs.Reply.{DocumentOf, StatusOf, Answered, Stepped, Idled}
use Rattle.vss_report.specs.Legible.{HasItsCode, has_its_code, IsShort, AreNames, IsLaneReply}
use Rattle.vss_report.specs.Report.{IsReplyText}
use Rattle.vss_report.specs.Shapes.{is_state_of, are_states, is_code, is_state, is_named_state, is_number, is_hex, is_result, is_all, then_count, mark_of_reply}
use Rattle.vss_report.specs.Words.{spaced, writer_in, state_text, states_text, code_word, code_text, sets_text, writer_text}
use Rattle.vss_report.proofs.Joined.{IsDigest, digest_if, digest_told, first_if, is_free, free_append, alone, joined, both}
use Rattle.vss_report.proofs.LegibleWords.{IsWord, same_bytes, name_word, name_free, number_back, is_number_back, is_hex_back, hex_word, result_word}
use Rattle.vss_report.proofs.LegibleWords.{is_result_back, Says, says_word, says_spaced, says_number, says_then, says_sets}

-- ## The states of the writers from one on: its own, and those of the writers after it.

-- the text of one writer's state
abbrev own : Plan → List WriterPlan → ℕ → WriterRow → List ℕ
own s ws w row = spaced (writer_in s (slice_get ws w)) ++ codes "=" ++ state_text row

from_writer : (s : Plan) (ws : List WriterPlan) (rows : List WriterRow) (w : ℕ) (d : WriterRow) → w < length rows → length rows ≡ length ws
    → states_text s (drop w ws) (drop w rows) ≡ own s ws w (get_or rows w d) ++ states_text s (drop (suc w) ws) (drop (suc w) rows)
from_writer s ws [] w d h e = absurd (omega arith)
from_writer s [] (r ∷ rows) w d h e = absurd (omega (arith, e))
from_writer s (x ∷ ws) (r ∷ rows) zero d h e = refl
from_writer s (x ∷ ws) (r ∷ rows) (suc w) d h e = from_writer s ws rows w d (omega (arith, h)) (omega (arith, e))

pub more_states : (s : Plan) (ws : List WriterPlan) (rows : List WriterRow) (w : ℕ) (d : WriterRow) (before after whole : List ℕ)
    → w < length rows → length rows ≡ length ws
    → after ≡ before ++ spaced (writer_in s (slice_get ws w)) ++ codes "=" ++ state_text (get_or rows w d)
    → before ++ states_text s (drop w ws) (drop w rows) ≡ whole
    → after ++ states_text s (drop (w + 1) ws) (drop (w + 1) rows) ≡ whole
more_states s ws rows w d before after whole h e is all = grind (arith, from_writer, append_assoc)

-- ## The states of the writers as they are read back, one writer after the other; and the first of so many things with a name.

-- the state of the writer with this name, and those of the writers after it
abbrev next_state : Plan → List ℕ → List WriterPlan → List (List ℕ) → Bool
next_state s name ws [] = false
next_state s name ws (word ∷ more) = is_state_of name word && are_states s ws more

words_from_writer : (s : Plan) (ws : List WriterPlan) (w : ℕ) (words : List (List ℕ)) → w < length ws
    → are_states s (drop w ws) words ≡ next_state s (writer_in s (slice_get ws w)) (drop (suc w) ws) words
words_from_writer s [] w words h = absurd (omega arith)
words_from_writer s (x ∷ ws) zero [] h = refl
words_from_writer s (x ∷ ws) zero (word ∷ more) h = refl
words_from_writer s (x ∷ ws) (suc w) words h = words_from_writer s ws w words (omega arith)

pub no_state : (s : Plan) (ws : List WriterPlan) (w : ℕ) (words : List (List ℕ)) (whole : Bool) → w < length ws → words ≡ []
    → whole ≡ are_states s (drop w ws) words → false ≡ whole
no_state s ws w words whole h none e = sym (e ∙ words_from_writer s ws w words h ∙ ap (next_state s (writer_in s (slice_get ws w)) (drop (suc w) ws)) none)

pub no_such_state : (s : Plan) (ws : List WriterPlan) (w : ℕ) (words : List (List ℕ)) (name word : List ℕ) (more : List (List ℕ)) (whole is : Bool) → w < length ws
    → words ≡ word ∷ more → name ≡ writer_in s (slice_get ws w) → is ≡ is_state_of name word → is ≡ false
    → whole ≡ are_states s (drop w ws) words → false ≡ whole
no_such_state s ws w words name word more whole is h some named told other e = grind (arith, words_from_writer)

pub one_state : (s : Plan) (ws : List WriterPlan) (w : ℕ) (words : List (List ℕ)) (name word : List ℕ) (more : List (List ℕ)) (whole is : Bool) → w < length ws
    → words ≡ word ∷ more → name ≡ writer_in s (slice_get ws w) → is ≡ is_state_of name word → is ≡ true
    → whole ≡ are_states s (drop w ws) words → whole ≡ are_states s (drop (w + 1) ws) more
one_state s ws w words name word more whole is h some named told so e = let next : w + 1 ≡ suc w = omega arith in grind (arith, common_steps, words_from_writer)

from_next : (name_of : ℕ → List ℕ) (name : List ℕ) (i n k : ℕ) → n ≡ suc k → bytes_eq (name_of i) name ≡ false
    → find (λ j. bytes_eq (name_of j) name) (range_with_len i n) ≡ find (λ j. bytes_eq (name_of j) name) (range_with_len (i + 1) k)
from_next name_of name i n k e other = grind arith

-- it is none of those up to here
pub next_named : (name_of : ℕ → List ℕ) (name own : List ℕ) (i count : ℕ) (whole : Option ℕ) → i < count → own ≡ name_of i → bytes_eq own name ≡ false
    → whole ≡ find (λ j. bytes_eq (name_of j) name) (range_with_len i (count - i))
    → whole ≡ find (λ j. bytes_eq (name_of j) name) (range_with_len (i + 1) (count - (i + 1)))
next_named name_of name own i count whole h is other e = grind (arith, from_next)

-- ## The states of the writers, as they are told, are read as such.

-- a text that is free of spaces, newlines and the signs in a state
record IsPart (part : List ℕ) : Type 0 where
  pub word : IsWord part
  pub equals : is_free 61 part ≡ true
  pub slash : is_free 47 part ≡ true

state_part : (st : WriterState) → IsPart (state.name_of st)
state_part st = grind arith

code_part : (e : WriterError) → IsPart (code_word e)
unfolding encode_with
code_part e = grind arith

is_code_back : (e : WriterError) → is_code (code_word e) ≡ true
unfolding encode_with
is_code_back e = grind arith

-- ## a state

coded : (st : WriterState) (code : Option WriterError) → has_its_code code (is_failed st) ≡ true
    → (IsWord (state.name_of st ++ code_text code)) × (is_free 61 (state.name_of st ++ code_text code) ≡ true) × (is_state (state.name_of st ++ code_text code) ≡ true)
coded st code h = grind (arith, append-nil, state_part, alone, state_of_name-name_of, code_part, free_append, joined, is_code_back)

-- ## the state of a writer

named_state : (name : List ℕ) (r : WriterRow) → is_name name ≡ true → HasItsCode r → (IsWord (name ++ codes "=" ++ state_text r)) × (is_state_of name (name ++ codes "=" ++ state_text r) ≡ true)
named_state name r h has =
    let c = coded r.state r.code has in
    let text : (name ++ codes "=") ++ state_text r ≡ name ++ (61 ∷ state_text r) = append_assoc name (codes "=") (state_text r) in (
      record {
        space = ap (is_free 32) text ∙ free_append 32 name (61 ∷ state_text r) (name_word name h).space c.0.space;
        line = ap (is_free 10) text ∙ free_append 10 name (61 ∷ state_text r) (name_word name h).line c.0.line;
      },
      ap (is_state_of name) text
          ∙ ap (is_named_state name) (joined 61 name (state_text r) (name_free name h) ∙ ap (λ ps. name ∷ ps) (alone 61 (state_text r) c.1))
          ∙ both (bytes_eq name name) (is_state (state_text r) && true) (same_bytes name) (both (is_state (state_text r)) true c.2 refl),
    )

-- ## all states

pub record SaysStates (s : Plan) (ws : List WriterPlan) (text : List ℕ) (before : List (List ℕ)) : Type 0 where
  pub words : List (List ℕ)
  pub says : Says text (before ++ words)
  pub are : are_states s ws words ≡ true

pub says_states : (s : Plan) (ws : List WriterPlan) (rows : List WriterRow) (a : List ℕ) (before : List (List ℕ)) → Says a before
    → All (λ (w : WriterPlan). is_name (token s w.name) ≡ true) ws → length rows ≡ length ws → All HasItsCode rows
    → SaysStates s ws (a ++ states_text s ws rows) before
says_states s [] [] a before h named many has = grind (arith, common_steps, append-nil)
says_states s [] (r ∷ rows) a before h named many has = absurd (omega (arith, many))
says_states s (w ∷ ws) [] a before h named many has = absurd (omega (arith, many))
says_states s (w ∷ ws) (r ∷ rows) a before h named many has =
    let name : List ℕ = token s w.name in
    let word : List ℕ = name ++ codes "=" ++ state_text r in
    let own = named_state name r (All-head (λ (x : WriterPlan). is_name (token s x.name) ≡ true) w ws named) (All-head HasItsCode r rows has) in
    let more = says_states s ws rows (a ++ spaced word) (before ++ word ∷ []) (says_spaced a word before (word ∷ []) h (says_word word own.0))
    (All-tail (λ (x : WriterPlan). is_name (token s x.name) ≡ true) w ws named) (omega (arith, many)) (All-tail HasItsCode r rows has) in
    record {
      words = word ∷ more.words;
      says = subst (λ text. Says text (before ++ word ∷ more.words)) (append_assoc a (spaced word) (states_text s ws rows)) (subst (Says (a ++ spaced word ++ states_text s ws rows)) (append_assoc before (word ∷ []) more.words) more.says);
      are = both (is_state_of name word) (are_states s ws more.words) own.1 more.are;
    }

-- ## Each kind of reply, as it is told, is read with the mark of its move.

-- a text is read as a reply with this mark
pub record IsReadAs (s : Plan) (text : List ℕ) (mark : Mark) : Type 0 where
  pub words : List (List ℕ)
  pub says : Says text words
  pub mark_is : mark_of_reply s words ≡ Some mark

as_told : (s : Plan) (text told : List ℕ) (mark own : Mark) → text ≡ told → mark ≡ own → IsReadAs s told own → IsReadAs s text mark
as_told s text told mark own e f h = subst (λ t. IsReadAs s t mark) (sym e) (subst (IsReadAs s told) (sym f) h)

-- ## kind by kind

read_restored : (s : Plan) (k : ℕ) → k < 65536 → IsReadAs s (codes "fault " ++ decimal k) (FaultAfter k)
read_restored s k few = grind (arith, common_steps, says_number k (omega arith), number_back k (omega arith))

clean_if : Bool → Option Mark
clean_if b = if b then Some Clean else None

read_number : (s : Plan) (n : ℕ) → IsShort n → IsReadAs s (codes "set " ++ decimal n) Clean
unfolding clean_if
read_number s n small = grind (arith, common_steps, says_number n small, is_number_back n small)

read_deleted : (s : Plan) (n : ℕ) → IsShort n → IsReadAs s (codes "deleted " ++ decimal n) Clean
unfolding clean_if
read_deleted s n small = grind (arith, common_steps, says_number n small, is_number_back n small)

result_alone : (s : Plan) (why : VssResult) → mark_of_reply s (result.name_of why ∷ []) ≡ clean_if (is_result (result.name_of why) && true)
unfolding clean_if
result_alone s why = grind arith

read_result : (s : Plan) (why : VssResult) → IsReadAs s (result.name_of why) Clean
unfolding clean_if
read_result s why = grind (arith, says_word, result_word, result_alone, clean_if, is_result_back)

read_digest : (s : Plan) (digest : List ℕ) → IsDigest digest → IsReadAs s (codes "digest " ++ encode_lower digest) Clean
unfolding clean_if
read_digest s digest h = let fact = says_word (encode_lower digest) (hex_word digest h.bytes) in grind (arith, common_steps, hex_word, is_hex_back)

read_block : (s : Plan) (first digest : List ℕ) → length first ≡ 8 → IsBytes first → IsDigest digest → IsReadAs s (codes "data " ++ encode_lower first ++ spaced (encode_lower digest)) Clean
unfolding clean_if
read_block s first digest long small h = record {
  words = codes "data" ∷ encode_lower first ∷ encode_lower digest ∷ [];
  says = says_spaced (codes "data " ++ encode_lower first) (encode_lower digest) (codes "data" ∷ encode_lower first ∷ []) (encode_lower digest ∷ [])
      (let f = says_word (encode_lower first) (hex_word first small) in record { pieces_are = ap (λ ps. codes "data" ∷ ps) f.pieces_are; line = f.line })
      (says_word (encode_lower digest) (hex_word digest h.bytes));
  mark_is = ap clean_if (both (is_hex 16 (encode_lower first)) (is_hex 64 (encode_lower digest) && true) (is_hex_back 16 8 first long refl small) (both (is_hex 64 (encode_lower digest)) true (is_hex_back 64 32 digest h.long refl h.bytes) refl));
}

read_document : (s : Plan) (n : ℕ) (digest : List ℕ) → IsShort n → IsDigest digest → IsReadAs s (codes "document " ++ decimal n ++ spaced (encode_lower digest)) Clean
unfolding clean_if
read_document s n digest small h = record {
  words = codes "document" ∷ decimal n ∷ encode_lower digest ∷ [];
  says = says_spaced (codes "document " ++ decimal n) (encode_lower digest) (codes "document" ∷ decimal n ∷ []) (encode_lower digest ∷ [])
      (let f = says_number n small in record { pieces_are = ap (λ ps. codes "document" ∷ ps) f.pieces_are; line = f.line })
      (says_word (encode_lower digest) (hex_word digest h.bytes));
  mark_is = ap clean_if (both (is_number (decimal n)) (is_hex 64 (encode_lower digest) && true) (is_number_back n small) (both (is_hex 64 (encode_lower digest)) true (is_hex_back 64 32 digest h.long refl h.bytes) refl));
}

all_numbers : (sets : List ℕ) → All IsShort sets → list_all is_number (map decimal sets) ≡ true
all_numbers [] h = refl
all_numbers (n ∷ sets) h = both (is_number (decimal n)) (list_all is_number (map decimal sets)) (is_number_back n (All-head IsShort n sets h)) (all_numbers sets (All-tail IsShort n sets h))

read_images : (s : Plan) (sets : List ℕ) → All IsShort sets → IsReadAs s (codes "images" ++ sets_text sets) Clean
unfolding clean_if
read_images s sets h = record {
  words = codes "images" ∷ map decimal sets;
  says = says_sets (codes "images") (codes "images" ∷ []) sets (record { pieces_are = refl; line = refl }) h;
  mark_is = ap clean_if (all_numbers sets h);
}

context_short : (c : Context) → IsShort (context.number_of c)
context_short c = grind arith

abbrev no_words : List (List ℕ)
no_words = []

read_properties : (s : Plan) (c cut used : ℕ) → IsShort c → IsShort cut → IsShort used
    → IsReadAs s (codes "properties context " ++ decimal c ++ codes " cut " ++ decimal cut ++ codes " used " ++ decimal used) Clean
unfolding clean_if
read_properties s c cut used a b d = record {
  words = codes "properties" ∷ codes "context" ∷ decimal c ∷ codes "cut" ∷ decimal cut ∷ codes "used" ∷ decimal used ∷ [];
  says = says_then (codes "properties context " ++ decimal c ++ codes " cut " ++ decimal cut) (codes "used ") (decimal used)
      (codes "properties" ∷ codes "context" ∷ decimal c ∷ codes "cut" ∷ decimal cut ∷ []) (codes "used" ∷ decimal used ∷ [])
      (says_then (codes "properties context " ++ decimal c) (codes "cut ") (decimal cut) (codes "properties" ∷ codes "context" ∷ decimal c ∷ []) (codes "cut" ∷ decimal cut ∷ [])
      (let h = says_number c a in record { pieces_are = ap (λ ps. codes "properties" ∷ codes "context" ∷ ps) h.pieces_are; line = h.line })
      (let h = says_number cut b in record { pieces_are = ap (λ ps. codes "cut" ∷ ps) h.pieces_are; line = h.line }))
      (let h = says_number used d in record { pieces_are = ap (λ ps. codes "used" ∷ ps) h.pieces_are; line = h.line });
  mark_is = ap (λ (x : Bool). clean_if (is_all (then_count (codes "used") (then_count (codes "cut") (if x then Some (codes "cut" ∷ decimal cut ∷ codes "used" ∷ decimal used ∷ []) else None))))) (is_number_back c a)
      ∙ ap (λ (x : Bool). clean_if (is_all (then_count (codes "used") (if x then Some (codes "used" ∷ decimal used ∷ []) else None)))) (is_number_back cut b)
      ∙ ap (λ (x : Bool). clean_if (is_all (if x then Some no_words else None))) (is_number_back used d);
}

writers_named : (s : Plan) → AreNames (writer_text s) (length s.writers) → All (λ (w : WriterPlan). is_name (token s w.name) ≡ true) s.writers
writers_named s h = grind (arith, slice_get-get_or)

read_status : (s : Plan) (rows : List WriterRow) → AreNames (writer_text s) (length s.writers) → length rows ≡ length s.writers → All HasItsCode rows
    → IsReadAs s (codes "status" ++ states_text s s.writers rows) Clean
unfolding clean_if
read_status s rows named many has =
    let h = says_states s s.writers rows (codes "status") (codes "status" ∷ []) (record { pieces_are = refl; line = refl }) (writers_named s named) many has in
    record { words = codes "status" ∷ h.words; says = h.says; mark_is = ap clean_if h.are }

-- ## any reply

pub read_reply : (s : Plan) (tells : List Bool) (m : Mark) (r : Reply) (text : List ℕ) → AreNames (writer_text s) (length s.writers) → IsReplyText s tells r text → IsLaneReply s tells m r → IsReadAs s text m
read_reply s tells m Fine text named e h = as_told s text (codes "ok") m Clean e.is h (record { words = codes "ok" ∷ []; says = record { pieces_are = refl; line = refl }; mark_is = refl })
read_reply s tells m Faulted text named e h = as_told s text (codes "fault") m Fault e.is h (record { words = codes "fault" ∷ []; says = record { pieces_are = refl; line = refl }; mark_is = refl })
read_reply s tells m (FaultedAfter k) text named e h = as_told s text _ m (FaultAfter k) e.is h.0 (read_restored s k h.1)
read_reply s tells m (Numbered n) text named e h = as_told s text _ m Clean e.is h.0 (read_number s n h.1)
read_reply s tells m (Coded why) text named e h = as_told s text _ m Clean e.is h (read_result s why)
read_reply s tells m NotSelectable text named e h = as_told s text (codes "NOT_SELECTABLE") m Clean e.is h (record { words = codes "NOT_SELECTABLE" ∷ []; says = record { pieces_are = refl; line = refl }; mark_is = refl })
read_reply s tells m (BlockOf v bytes) text named e h =
    let f = first_if (slice_get tells v) bytes e.first h.1 e.shown.0 in
    as_told s text _ m Clean e.is h.0 (read_block s e.first e.digest f.long f.bytes (digest_if (slice_get tells v) bytes e.digest e.shown.1))
read_reply s tells m (BlocksOf v blocks) text named e h = as_told s text _ m Clean e.is h (read_digest s e.digest (digest_if (slice_get tells v) (concat blocks) e.digest e.shown))
read_reply s tells m (KeptSets sets) text named e h = as_told s text _ m Clean e.is h.0 (read_images s sets h.1)
read_reply s tells m (PropertiesOf c cut used) text named e h = as_told s text _ m Clean e.is h.0 (read_properties s (context.number_of c) cut used (context_short c) h.1 h.2)
read_reply s tells m (Deleted n) text named e h = as_told s text _ m Clean e.is h.0 (read_deleted s n h.1)
read_reply s tells m (DocumentOf bytes) text named e h = as_told s text _ m Clean e.is h.0 (read_document s (length bytes) (sha256 bytes) h.1 (digest_told bytes))
read_reply s tells m (StatusOf rows) text named e h = as_told s text _ m Clean e.is h.0 (read_status s rows named h.1 h.2)
read_reply s tells m (Answered o a) text named e h = absurd h
read_reply s tells m (Stepped g v fault) text named e h = absurd h
read_reply s tells m (Idled n) text named e h = absurd h
