-- A builder goes on: what holds of its draft holds with whatever is appended to its source; and a new name is none of those taken.
use Rattle.std.proofs.Common.{◌≡◌, ℕ, ◌+◌, Bool, false, cond, List, [], ◌∷◌, ◌++◌, length, map, Vec, Global, Some, None, refl, ap, sym, ◌∙◌, arith, ◌-◌, ◌<◌}
use Rattle.std.proofs.Common.{◌≤◌, true, Option, subst, length-append}
use Rattle.std.proofs.lemmas.Grind.{common_steps}
use Rattle.std.proofs.lemmas.Iterator.Adapters.{position_from-zero}
use Rattle.std.proofs.lemmas.List.{length-map, map-append, take-append-le, drop-append-le, length-drop, append_assoc, append-nil}
use Rattle.std.specs.List.{position_from, list_any}
use Rattle.std.specs.Prelude.{position, if◌then◌else◌, is_some, ok_or, Result, Ok, Err}
use Rattle.std.specs.Str.{bytes_eq}
use Rattle.indexmap.specs.IndexSet.{insert_key}
use Rattle.vss_names.specs.Names.{is_name}
use Rattle.writer_calls.specs.declared.scripted.Scripted.{Scripted}
use Rattle.writer_meta.specs.Metadata.{Meta, meta_of}
use Rattle.scenario.specs.Bounds.{IsShortPart, IsRanged}
use Rattle.scenario.specs.Built.{IsGrowing, IsNewlyNamed, if_placed, line_said, op_said, writer_said, answer_said, value_said}
use Rattle.scenario.specs.Declarations.{name_field, new_name, count_of, declared_at}
use Rattle.scenario.specs.Drafts.{Names, names_of, AreNames, DraftValue, IsDraft, IsEntry, IsNewVolume, IsNewName, with_entry, saying_in, names_after}
use Rattle.scenario.specs.Grammar.{has_lane, may_stand}
use Rattle.scenario.specs.Fields.{bytes_of, IsPart}
use Rattle.scenario.specs.Named.{IsNamed, HasNames}
use Rattle.scenario.specs.Names.{place_of, area_named, volume_named, writer_named, lane_named}
use Rattle.scenario.specs.Ops.{volume_field, writer_field}
use Rattle.scenario.specs.SoFar.{SoFar, Saying, plan_in}
use Rattle.scenario.specs.SoFar as saying
use Rattle.scenario.specs.declared.entry.Entry.{Entry}
use Rattle.scenario.specs.declared.entry.Entry.TheVariants as entry
use Rattle.scenario.specs.declared.field.Field.TheVariants.{Text, Number}
use Rattle.scenario.specs.declared.field.Field.TheVariants as field
use Rattle.scenario.specs.declared.fields.Fields.{Fields}
use Rattle.scenario.specs.declared.fields.Fields.TheVariants.{One, Two, Three, Four}
use Rattle.scenario.specs.declared.name_kind.NameKind.{NameKind}
use Rattle.scenario.specs.declared.name_kind.NameKind.TheVariants as kind
use Rattle.scenario.specs.declared.op.Op.{Op}
use Rattle.scenario.specs.declared.op.Op.TheVariants.{Component}
use Rattle.scenario.specs.declared.op.Op.TheVariants as op
use Rattle.scenario.specs.declared.reason.Reason.{Reason}
use Rattle.scenario.specs.declared.reason.Reason.TheVariants.{UnknownName, Misplaced}
use Rattle.scenario.specs.declared.span.Span.{Span}
use Rattle.scenario.specs.declared.value.Value.{Value}
use Rattle.scenario.specs.declared.value.Value.TheVariants as value
use Rattle.scenario.specs.declared.volume_row.VolumeRow.{VolumeRow}
use Rattle.scenario.specs.declared.word.Word.{Word}
use Rattle.scenario.specs.declared.word.Word.TheVariants as word
use Rattle.scenario.proofs.Kept.{kept}
use Rattle.scenario.proofs.Named.{IsSaid, IsGood, named_after, plan_named, on_bind, on_either, new_name as new_name_apart, writer_new, word_said}

-- ## The names that are taken: as many as there are of their kind, and a new one is none of them.

pub count_names : (text : List ℕ) (d : SoFar) (names : Names) (k : NameKind) → AreNames text d names → length (names_of names k) ≡ count_of d k
count_names text d names k h = grind (arith, length-map)

pub new_name_is : (text : List ℕ) (d : SoFar) (names : Names) (k : NameKind) (name : Span) → AreNames text d names
    → new_name text d k name ≡ name_field text (is_some (place_of (bytes_of text name) (names_of names k))) name
unfolding area_named volume_named writer_named lane_named
new_name_is text d names k name h = grind arith

pub declared_text : (text : List ℕ) (d : SoFar) (names : Names) (k : NameKind) (name : Span) → AreNames text d names
    → declared_at text d k (Text name) ≡ ok_or (place_of (bytes_of text name) (names_of names k)) UnknownName
unfolding area_named volume_named writer_named lane_named volume_field writer_field
declared_text text d names k name h = grind arith

-- ## a table of names

abbrev Key : Type 0
Key = Vec ℕ Global

abbrev pub items_of : Key → List ℕ
items_of k = k.items

place-from : (name : List ℕ) (i : ℕ) (ks : List Key) → position_from (λ (k : Key). bytes_eq name k.items) i ks ≡ position_from (λ other. bytes_eq name other) i (map items_of ks)
place-from name i [] = refl
place-from name i (k ∷ ks) = ap (cond (bytes_eq name k.items) (Some i)) (place-from name (i + 1) ks)

pub place_is : (name : List ℕ) (ks : List Key) → position (λ (k : Key). bytes_eq name k.items) ks ≡ place_of name (map items_of ks)
place_is name ks = grind (arith, position_from-zero, place-from)

absent-at : (eq : Key → Key → Bool) (k e : Key) (i : ℕ) (ks : List Key) (b : Bool) → eq k e ≡ b → cond b (Some i) (position_from (λ other. bytes_eq k.items other) (i + 1) (map items_of ks)) ≡ None
    → (position_from (λ other. bytes_eq k.items other) (i + 1) (map items_of ks) ≡ None → list_any (eq k) ks ≡ false) → list_any (eq k) (e ∷ ks) ≡ false
absent-at eq k e i ks b h n f = grind arith

absent-from : (eq : Key → Key → Bool) (k : Key) (i : ℕ) (ks : List Key) → ((x : Key) → eq k x ≡ bytes_eq k.items x.items) → position_from (λ other. bytes_eq k.items other) i (map items_of ks) ≡ None
    → list_any (eq k) ks ≡ false
absent-from eq k i [] same n = refl
absent-from eq k i (e ∷ ks) same n = grind (arith, common_steps, absent-at, absent-from eq k (i + 1) ks same)

-- a new name goes last
pub insert_new : (eq : Key → Key → Bool) (k : Key) (name : List ℕ) (ks : List Key) (names : List (List ℕ)) → ((x : Key) → eq k x ≡ bytes_eq k.items x.items) → k.items ≡ name → map items_of ks ≡ names → place_of name names ≡ None
    → map items_of (insert_key eq ks k) ≡ names ++ name ∷ []
insert_new eq k name ks names same e m n =
    let absent : position_from (λ other. bytes_eq k.items other) 0 (map items_of ks) ≡ None =
    sym (position_from-zero (λ other. bytes_eq k.items other) (map items_of ks)) ∙ ap (λ x. place_of x (map items_of ks)) e ∙ ap (place_of name) m ∙ n in
    let none : list_any (eq k) ks ≡ false = absent-from eq k 0 ks same absent in
    ap (λ b. map items_of (if b then ks else ks ++ k ∷ [])) none ∙ map-append items_of ks (k ∷ []) ∙ ap (λ x. map items_of ks ++ x ∷ []) e ∙ ap (λ xs. xs ++ name ∷ []) m

-- ## A builder goes on: what holds of its draft holds with whatever is appended to its source, also after one more call.

-- ## parts of a source

pub bytes_more : (text more : List ℕ) (span : Span) → IsPart (length text) span → bytes_of (text ++ more) span ≡ bytes_of text span
bytes_more text more span h = grind (arith, length-drop, drop-append-le, take-append-le)

part_more : (text more : List ℕ) (span : Span) → IsPart (length text) span → IsPart (length (text ++ more)) span
part_more text more span h = record { ordered = h.ordered; within = omega (arith, h.within, length-append text more) }

short_more : (text more : List ℕ) (span : Span) → IsShortPart (length text) span → IsShortPart (length (text ++ more)) span
short_more text more span h = record { part = part_more text more span h.part; short = h.short }

place_more : (text more : List ℕ) (span : Span) (names : List (List ℕ)) → IsPart (length text) span → place_of (bytes_of text span) names ≡ None → place_of (bytes_of (text ++ more) span) names ≡ None
place_more text more span names h e = ap (λ name. place_of name names) (bytes_more text more span h) ∙ e

volume_more : (text more : List ℕ) (d : DraftValue) (row : VolumeRow) (size : ℕ) → IsNewVolume text d row size → IsNewVolume (text ++ more) d row size
volume_more text more d row size h = grind (arith, common_steps, short_more, place_more)

name_more : (text more : List ℕ) (names : List (List ℕ)) (name : Span) → IsNewName text names name → IsNewName (text ++ more) names name
name_more text more names name h = record { short = short_more text more name h.short; new = place_more text more name names h.short.part h.new }

ranged_more : (text more : List ℕ) (rows : List VolumeRow) (writers : ℕ) (op : Op) → IsRanged (length text) rows writers op → IsRanged (length (text ++ more)) rows writers op
ranged_more text more rows writers op h = grind (arith, common_steps, part_more)

entry_more : (text more : List ℕ) (d : DraftValue) (e : Entry) → IsEntry text d e → IsEntry (text ++ more) d e
entry_more text more d entry.Skipped h = tt
entry_more text more d entry.Opening h = tt
entry_more text more d (entry.Area area) h = grind (arith, common_steps, short_more, place_more)
entry_more text more d (entry.OwnVolume row) h = (volume_more text more d row (row.blocks + row.slots) h.0, h.1)
entry_more text more d (entry.SharedVolume row a area) h = (volume_more text more d row row.blocks h.0, h.1)
entry_more text more d (entry.Writer name metadata) h = (name_more text more d.names.writers name h.0, h.1, h.2, h.3)
entry_more text more d (entry.Answer w row) h = h
entry_more text more d (entry.Lane name whom) h = (name_more text more d.names.lanes name h.0, h.1, h.2)
entry_more text more d (entry.Line line) h = grind (arith, common_steps, ranged_more)

-- the names are the same
names_more : (text more : List ℕ) (d : DraftValue) (e : Entry) → IsEntry text d e → names_after (text ++ more) d.names (saying_in e) ≡ names_after text d.names (saying_in e)
names_more text more d e h = grind (arith, bytes_more)

same_entry : (text more : List ℕ) (d : DraftValue) (e : Entry) → IsEntry text d e → with_entry (text ++ more) d e ≡ with_entry text d e
same_entry text more d e h = ap (λ n. record (with_entry text d e) { names = n }) (names_more text more d e h)

-- ## one call more

named_name : (text more : List ℕ) (span : Span) → IsPart (length text) span → is_name (bytes_of text span) ≡ true → is_name (bytes_of (text ++ more) span) ≡ true
named_name text more span h e = ap is_name (bytes_more text more span h) ∙ e

none_is : (o : Option ℕ) → o ≡ None → is_some o ≡ false
none_is o e = ap is_some e

said_more : (text more : List ℕ) (k : ℕ) (d : DraftValue) (e : Entry) → AreNames (text ++ more) d.said d.names → IsEntry text d e → IsNewlyNamed text k e → IsSaid (text ++ more) d.said k (saying_in e)
unfolding volume_named writer_named lane_named
said_more text more k d entry.Skipped names h g = tt
said_more text more k d entry.Opening names h g = tt
said_more text more k d (entry.Area area) names h g = tt
said_more text more k d (entry.OwnVolume row) names h g = grind (arith, common_steps, volume_more, named_name, none_is)
said_more text more k d (entry.SharedVolume row a area) names h g = grind (arith, common_steps, volume_more, named_name, none_is)
said_more text more k d (entry.Writer name metadata) names h g = grind (arith, common_steps, named_name, none_is, name_more)
said_more text more k d (entry.Answer w row) names h g = tt
said_more text more k d (entry.Lane name whom) names h g = grind (arith, common_steps, named_name, none_is, name_more)
said_more text more k d (entry.Line line) names h g = g

pub grown : (source : List ℕ) (k : ℕ) (d : DraftValue) (e : Entry) → IsGrowing source k d → IsEntry source d e → IsNewlyNamed source k e → k < length source + 2
    → IsGrowing source (k + 1) (with_entry source d e)
grown source k d e h new named few =
    record {
      drafts = λ more. subst (IsDraft (source ++ more)) (same_entry source more d e new) (kept (source ++ more) d e (h.drafts more) (entry_more source more d e new));
      named = λ more. named_after (source ++ more) k d.said (saying_in e) (said_more source more k d e (h.drafts more).names new named) (h.named more);
      some = omega arith;
      few = omega (arith, few);
      short = h.short;
    }

pub as_is : (source : List ℕ) (k : ℕ) (d : DraftValue) → IsGrowing source k d → IsDraft source d
as_is source k d h = subst (λ text. IsDraft text d) (append-nil source) (h.drafts [])

pub plan_has_names : (source : List ℕ) (k : ℕ) (d : DraftValue) → IsGrowing source k d → HasNames (plan_in source d.said)
plan_has_names source k d h = plan_named source k d.said (subst (λ text. IsNamed text k d.said) (append-nil source) (h.named [])) h.some h.few

pub appended : (source bytes : List ℕ) (k : ℕ) (d : DraftValue) → IsGrowing source k d → length source + length bytes + 1 ≤ 4000000000 → IsGrowing (source ++ bytes ++ 10 ∷ []) k d
appended source bytes k d h room =
    let many : length (source ++ bytes ++ 10 ∷ []) ≡ length source + length bytes + 1 = omega (arith, length-append (source ++ bytes) (10 ∷ []), length-append source bytes) in
    let same : (more : List ℕ) → source ++ (bytes ++ (10 ∷ more)) ≡ (source ++ bytes ++ 10 ∷ []) ++ more =
    λ more. sym (append_assoc source bytes (10 ∷ more)) ∙ sym (append_assoc (source ++ bytes) (10 ∷ []) more) in
    record {
      drafts = λ more. subst (λ text. IsDraft text d) (same more) (h.drafts (bytes ++ (10 ∷ more)));
      named = λ more. subst (λ text. IsNamed text k d.said) (same more) (h.named (bytes ++ (10 ∷ more)));
      some = h.some;
      few = omega (arith, h.few, many);
      short = omega (arith, many, room);
    }

-- ## what a call says has new names

newly : (text : List ℕ) (k : ℕ) (d : SoFar) (e : Entry) → IsSaid text d k (saying_in e) → IsNewlyNamed text k e
newly text k d e h = grind arith

good_is : (P : Saying → Type 0) (r : Result Saying Reason) (s : Saying) → r ≡ Ok s → IsGood P r → P s
good_is P r s e h = subst (IsGood P) e h

placed : (text : List ℕ) (d : SoFar) (k : ℕ) (w : Word) (said : Result Saying Reason) → IsGood (IsSaid text d k) said → IsGood (IsSaid text d k) (if_placed d w said)
placed text d k w said h = on_either (IsSaid text d k) (may_stand d.opened (has_lane d.lanes) w) said (Err Misplaced) h tt

line_good : (text : List ℕ) (d : SoFar) (k : ℕ) (w : Word) (fields : Fields) → IsGood (IsSaid text d k) (line_said text d k w fields)
line_good text d k w fields = placed text d k w _ (word_said text d k w fields)

op_good : (text : List ℕ) (d : SoFar) (k : ℕ) (what : Op) → IsGood (IsSaid text d k) (op_said text d k what)
op_good text d k what = grind arith

writer_good : (text : List ℕ) (d : SoFar) (k : ℕ) (name : Span) (meta : Meta) → IsGood (IsSaid text d k) (writer_said text d name meta)
writer_good text d k name meta = grind (arith, on_bind, on_either, writer_new, new_name_apart)

answer_good : (text : List ℕ) (d : SoFar) (k w : ℕ) (row : Scripted) → IsGood (IsSaid text d k) (answer_said text d w row)
unfolding answer_said
answer_good text d k w row = grind arith

value_good : (text : List ℕ) (d : SoFar) (k : ℕ) (name : Span) (v : Value) → IsGood (IsSaid text d k) (value_said text d k name v)
value_good text d k name (value.Writer metadata) = placed text d k word.Writer _ (writer_good text d k name (meta_of metadata))
value_good text d k name (value.Answer writer row) = placed text d k word.Answer _ (answer_good text d k writer row)
value_good text d k name (value.Area slots) = line_good text d k word.Area (Two (Text name) (Number slots))
value_good text d k name (value.OwnVolume blocks slots) = line_good text d k word.Volume (Three (Text name) (Number blocks) (Number slots))
value_good text d k name (value.SharedVolume blocks area) = line_good text d k word.Volume (Four (Text name) (Number blocks) field.Word (Number area))
value_good text d k name (value.Lane None) = line_good text d k word.Lane (One (Text name))
value_good text d k name (value.Lane (Some w)) = line_good text d k word.Lane (Three (Text name) field.Word (Number w))
value_good text d k name (value.Line what) = op_good text d k what
value_good text d k name (value.Component writer) = op_good text d k (op.Component writer name)

-- ## a call

pub drafted : (source bytes text : List ℕ) (k : ℕ) (d : DraftValue) → text ≡ source ++ bytes ++ 10 ∷ [] → IsGrowing source k d → length source + length bytes + 1 ≤ 4000000000 → IsDraft text d
drafted source bytes text k d same h room = subst (λ t. IsDraft t d) (sym same) (as_is (source ++ bytes ++ 10 ∷ []) k d (appended source bytes k d h room))

pub grown_by : (source bytes text : List ℕ) (k : ℕ) (d : DraftValue) (name : Span) (v : Value) (e : Entry) → text ≡ source ++ bytes ++ 10 ∷ [] → IsGrowing source k d → length source + length bytes + 1 ≤ 4000000000
    → IsEntry text d e → Ok (saying_in e) ≡ value_said text d.said k name v → IsGrowing text (k + 1) (with_entry text d e)
grown_by source bytes text k d name v e same h room new said =
    let grows : IsGrowing text k d = subst (λ t. IsGrowing t k d) (sym same) (appended source bytes k d h room) in
    let named : IsNewlyNamed text k e = newly text k d.said e (good_is (IsSaid text d.said k) _ (saying_in e) (sym said) (value_good text d.said k name v)) in
    grown text k d e grows new named (omega (arith, h.few, ap length same, length-append (source ++ bytes) (10 ∷ []), length-append source bytes))
