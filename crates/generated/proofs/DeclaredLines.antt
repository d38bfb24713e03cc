-- The lines before the lanes: they declare eight volumes, and three writers with their documents.
use Rattle.std.proofs.Common.{◌≡◌, ℕ, true, List, [], Some, Ok, refl, codes, arith, ◌∙◌, ◌+◌, ◌*◌, ◌<◌, Bool, false, ◌∷◌, ◌++◌, length, map, ap, ap₂, sym}
use Rattle.std.proofs.Common.{subst}
use Rattle.std.specs.Prelude.{◌&&◌, not, nat_lt, nat_le, is_some, if◌then◌else◌, Result, Err}
use Rattle.serde_json.proofs.OnLiterals.{serde_json_on_literals}
use Rattle.serde_json.specs.Read.{read}
use Rattle.uuid.proofs.OnLiterals.{uuid_on_literals}
use lib.Utf8.{encode}
use Rattle.vss_names.specs.ComponentType as kind
use Rattle.vss_names.specs.Level as level
use Rattle.vss_names.specs.SourceKind as source
use Rattle.vss_names.specs.Usage as usage
use Rattle.writer_meta.specs.Refusal.{Refusal}
use Rattle.scenario.specs.SoFar.{after}
use Rattle.scenario.specs.SoFar as saying
use Rattle.generated.proofs.Meant.{Declared, no_script, AreLanes, Run, IsSaid}
use Rattle.generated.proofs.Reader.{Says, end_of, head_is, tail_is, Then, line_then, then_line, is_word, spans_at}
use Rattle.generated.proofs.SetTexts.{volume_name, all_declared, rest_is}
use Rattle.generated.proofs.Terms.{is_utf8, chars, Data, boolean, number, string, array, object, unsigned, no_items, item, no_members, member, Meta, class_in}
use Rattle.generated.proofs.Terms.{name_in, level_in, usage_in, source_in, freeze_timeout_in, components_in, kind_in, path_in, component_name_in, selectable_in}
use Rattle.generated.proofs.Terms.{rows_of_part, part_in, parts_in, double_after, list_of_parts, unknown_in, rows_of_meta, meta_in, value_of_text, metadata_in}
use Rattle.generated.proofs.Terms.{system, database, web, range_with_len, nat_tests, length-map, length_push, map_push, map-range_with_len_more}
use Rattle.generated.proofs.Terms.{length-range_with_len, Reason, Misplaced, TooMany, Span, WriterPlan, LanePlan, span_from, bytes_of, fields_of, rest_fields}
use Rattle.generated.proofs.Terms.{number_in, word_of, is_name, place_of, volume_named, writer_named, ◌>>=◌, number_field, SoFar, nothing, name_field}
use Rattle.generated.proofs.Terms.{opening_of, own_volume_of, volume_of, own_row, has_volume_room, writer_of, described, document_field, writer_if}
use Rattle.generated.proofs.Terms.{placed_row_of, row_of, has_lane, as_lines, declarations, shape_of, own_shape, both}

-- ## What the documents of the generated scenario's writers say.

-- a document of one component, all whose members but the time-out are said
abbrev document_data : List ℕ → ℕ → ℕ → List ℕ → ℕ → ℕ → Data
document_data class part_kind rank name origin use_of = object (
    member (codes "class") (string class)
    (member (codes "components") (array (item (object (
    member (codes "name") (string (codes "main"))
    (member (codes "path") (string [])
    (member (codes "selectable") (boolean true)
    (member (codes "type") (number (unsigned part_kind)) no_members))))) no_items))
    (member (codes "level") (number (unsigned rank))
    (member (codes "name") (string name)
    (member (codes "source") (number (unsigned origin))
    (member (codes "usage") (number (unsigned use_of)) no_members))))))

metadata_is : (text : List ℕ) (d : Data) (m : Meta) → is_utf8 text ≡ true → read text ≡ Some d → meta_in d ≡ Ok m → metadata_in text ≡ Ok m
unfolding metadata_in value_of_text
metadata_is text d m utf8 reads says = grind arith

-- ## the writer `sys`

abbrev pub system_text : List ℕ
system_text = codes "{\"class\":\"11111111-1111-4111-8111-111111111111\",\"components\":[{\"name\":\"main\",\"path\":\"\",\"selectable\":true,\"type\":2}],\"level\":1,\"name\":\"System\",\"source\":3,\"usage\":2}"

abbrev system_data : Data
system_data = document_data (codes "11111111-1111-4111-8111-111111111111") 2 1 (codes "System") 3 2

system_is_text : is_utf8 system_text ≡ true
unfolding is_utf8 chars encode
system_is_text = refl

system_reads : read system_text ≡ Some system_data
unfolding serde_json_on_literals
system_reads = refl

system_says : meta_in system_data ≡ Ok system
unfolding class_in name_in level_in usage_in source_in freeze_timeout_in components_in kind_in path_in component_name_in selectable_in rows_of_part part_in parts_in double_after list_of_parts unknown_in rows_of_meta meta_in uuid_on_literals level.level_of_number usage.usage_of_number source.source_kind_of_number kind.component_type_of_number
system_says = refl

pub system_read : metadata_in system_text ≡ Ok system
system_read = metadata_is system_text system_data system system_is_text system_reads system_says

-- ## the writer `db`

abbrev pub database_text : List ℕ
database_text = codes "{\"class\":\"22222222-2222-4222-8222-222222222222\",\"components\":[{\"name\":\"main\",\"path\":\"\",\"selectable\":true,\"type\":1}],\"level\":2,\"name\":\"Database\",\"source\":1,\"usage\":3}"

abbrev database_data : Data
database_data = document_data (codes "22222222-2222-4222-8222-222222222222") 1 2 (codes "Database") 1 3

database_is_text : is_utf8 database_text ≡ true
unfolding is_utf8 chars encode
database_is_text = refl

database_reads : read database_text ≡ Some database_data
unfolding serde_json_on_literals
database_reads = refl

database_says : meta_in database_data ≡ Ok database
unfolding class_in name_in level_in usage_in source_in freeze_timeout_in components_in kind_in path_in component_name_in selectable_in rows_of_part part_in parts_in double_after list_of_parts unknown_in rows_of_meta meta_in uuid_on_literals level.level_of_number usage.usage_of_number source.source_kind_of_number kind.component_type_of_number
database_says = refl

pub database_read : metadata_in database_text ≡ Ok database
database_read = metadata_is database_text database_data database database_is_text database_reads database_says

-- ## the writer `web`

abbrev pub web_text : List ℕ
web_text = codes "{\"class\":\"33333333-3333-4333-8333-333333333333\",\"components\":[{\"name\":\"main\",\"path\":\"\",\"selectable\":true,\"type\":2}],\"level\":3,\"name\":\"Web\",\"source\":3,\"usage\":3}"

abbrev web_data : Data
web_data = document_data (codes "33333333-3333-4333-8333-333333333333") 2 3 (codes "Web") 3 3

web_is_text : is_utf8 web_text ≡ true
unfolding is_utf8 chars encode
web_is_text = refl

web_reads : read web_text ≡ Some web_data
unfolding serde_json_on_literals
web_reads = refl

web_says : meta_in web_data ≡ Ok web
unfolding class_in name_in level_in usage_in source_in freeze_timeout_in components_in kind_in path_in component_name_in selectable_in rows_of_part part_in parts_in double_after list_of_parts unknown_in rows_of_meta meta_in uuid_on_literals level.level_of_number usage.usage_of_number source.source_kind_of_number kind.component_type_of_number
web_says = refl

pub web_read : metadata_in web_text ≡ Ok web
web_read = metadata_is web_text web_data web web_is_text web_reads web_says

-- ## The lines before the lanes: they declare eight volumes and three writers.

abbrev pub start : Declared
start = record { volumes = 0; names = []; writers = []; metas = [] }

-- no lane has begun
abbrev pub no_run : Run
no_run = record { lanes = []; lines = 0; agendas = 0 }

no_lane : (text : List ℕ) (lanes : List LanePlan) → AreLanes text [] lanes → has_lane lanes ≡ false
no_lane text lanes h = grind arith

-- ## a new name

pub new_name : (text : List ℕ) (taken : Bool) (span : Span) (name : List ℕ) → bytes_of text span ≡ name → is_name name ≡ true → taken ≡ false → name_field text taken span ≡ Ok span
unfolding name_field
new_name text taken span name b good free = grind arith

-- ## the first line

opened : (text rest : List ℕ) → Then text (line_then (codes "scenario" ∷ codes "1" ∷ []) rest) (λ d. d ≡ nothing) → Then text rest (IsSaid text start no_run)
unfolding word_of row_of opening_of number_field number_in
opened text rest i = then_line text 115 (codes "cenario") (codes "1" ∷ []) rest (λ d. d ≡ nothing) (IsSaid text start no_run) refl refl says i
  where
    said : IsSaid text start no_run (after nothing saying.Opening)
    said = record {
      declared = record { opened = refl; names = refl; shapes = refl; groups = refl; size = refl; writers = refl; metas = refl; scripts = refl };
      lanes = tt;
      lines = refl;
      agendas = refl;
    }

    says : (d : SoFar) → d ≡ nothing → (row_number at : ℕ) → map (bytes_of text) (spans_at at (codes "1" ∷ [])) ≡ codes "1" ∷ []
        → Says (λ said. IsSaid text start no_run (after d said)) (placed_row_of text d row_number (end_of at (codes "1" ∷ [])) (word_of (codes "scenario")) (spans_at at (codes "1" ∷ [])))
    says d same row_number at parts = record {
      said = saying.Opening;
      is = ap (λ (x : SoFar). placed_row_of text x row_number (end_of at (codes "1" ∷ [])) (word_of (codes "scenario")) (spans_at at (codes "1" ∷ []))) same
          ∙ ap (λ (bytes : List ℕ). number_in 1 1 bytes >>= (λ n. Ok saying.Opening)) (head_is _ _ _ _ parts);
      holds = subst (λ x. IsSaid text start no_run (after x saying.Opening)) (sym same) said;
    }

-- ## volumes

abbrev with_volume : List ℕ → Declared → Declared
with_volume name m = record m { volumes = m.volumes + 1; names = m.names ++ name ∷ [] }

few : (size count k : ℕ) → size ≡ 1280 * k → count ≡ k → nat_lt k 8 ≡ true → (nat_lt count 128 && nat_le (size + 1280) 131072) ≡ true
few size count k e f l = grind (arith, nat_tests)

volume : (text rest : List ℕ) (c : ℕ) (cs : List ℕ) (m : Declared) → is_word (c ∷ cs) ≡ true → is_name (c ∷ cs) ≡ true → is_some (place_of (c ∷ cs) m.names) ≡ false → nat_lt m.volumes 8 ≡ true
    → Then text (line_then (codes "volume" ∷ (c ∷ cs) ∷ codes "256" ∷ codes "1024" ∷ []) rest) (IsSaid text m no_run) → Then text rest (IsSaid text (with_volume (c ∷ cs) m) no_run)
unfolding word_of row_of own_volume_of number_field number_in volume_named
volume text rest c cs m good named free small i =
    then_line text 118 (codes "olume") ((c ∷ cs) ∷ codes "256" ∷ codes "1024" ∷ []) rest (IsSaid text m no_run) (IsSaid text (with_volume (c ∷ cs) m) no_run) (ap (λ b. b && true) good) refl says i
  where
    zero_plus : (n : ℕ) → 0 + n ≡ n
    zero_plus n = omega arith

    says : (d : SoFar) → IsSaid text m no_run d → (row_number at : ℕ) → map (bytes_of text) (spans_at at ((c ∷ cs) ∷ codes "256" ∷ codes "1024" ∷ [])) ≡ (c ∷ cs) ∷ codes "256" ∷ codes "1024" ∷ []
        → Says (λ said. IsSaid text (with_volume (c ∷ cs) m) no_run (after d said)) (placed_row_of text d row_number (end_of at ((c ∷ cs) ∷ codes "256" ∷ codes "1024" ∷ [])) (word_of (codes "volume")) (spans_at at ((c ∷ cs) ∷ codes "256" ∷ codes "1024" ∷ [])))
    says d said row_number at parts =
        let h = said.declared in
        let first = span_from at (at + length (c ∷ cs)) in
        let second = span_from (at + length (c ∷ cs) + 1) (at + length (c ∷ cs) + 1 + 3) in
        let third = span_from (at + length (c ∷ cs) + 1 + 3 + 1) (at + length (c ∷ cs) + 1 + 3 + 1 + 4) in
        let name = head_is _ _ _ _ parts in
        let blocks = head_is _ _ _ _ (tail_is _ _ _ _ parts) in
        let slots = head_is _ _ _ _ (tail_is _ _ _ _ (tail_is _ _ _ _ parts)) in
        let row = own_row d first 256 1024 in
        let count : length d.volumes ≡ m.volumes = sym (length-map d.volumes shape_of) ∙ ap length h.shapes ∙ length-map (range_with_len 0 m.volumes) own_shape ∙ length-range_with_len 0 m.volumes in
        let new : name_field text (is_some (volume_named text d.volumes (bytes_of text first))) first ≡ Ok first
        = new_name text _ first (c ∷ cs) name named (ap₂ (λ x ns. is_some (place_of x ns)) name h.names ∙ free) in
        record {
          said = saying.OwnVolume row;
          is = ap₂ (λ (a b : Bool). if a && not b then volume_of text d (fields_of (first ∷ second ∷ third ∷ [])) else Err Misplaced) h.opened (no_lane text d.lanes said.lanes)
              ∙ ap (λ (r : Result Span Reason). r >>= (λ n. number_field text 1 65536 second >>= (λ b. number_field text 0 65536 third >>= (λ s. if has_volume_room d (b + s) then Ok (saying.OwnVolume (own_row d n b s)) else Err TooMany)))) new
              ∙ ap (λ (bytes : List ℕ). number_in 1 65536 bytes >>= (λ b. number_field text 0 65536 third >>= (λ s. if has_volume_room d (b + s) then Ok (saying.OwnVolume (own_row d first b s)) else Err TooMany))) blocks
              ∙ ap (λ (bytes : List ℕ). number_in 0 65536 bytes >>= (λ s. if has_volume_room d (256 + s) then Ok (saying.OwnVolume (own_row d first 256 s)) else Err TooMany)) slots
              ∙ ap (λ (t : Bool). if t then Ok (saying.OwnVolume row) else Err TooMany) (few d.size (length d.volumes) m.volumes h.size count small);
          holds = record {
            declared = record {
              opened = h.opened;
              names = map_push (λ r. bytes_of text r.name) d.volumes row ∙ ap₂ (λ ns n. ns ++ n ∷ []) h.names name;
              shapes = map_push shape_of d.volumes row ∙ ap₂ (λ ss g. ss ++ own_shape g ∷ []) h.shapes h.groups ∙ sym (map-range_with_len_more own_shape 0 m.volumes m.volumes (zero_plus m.volumes));
              groups = length_push d.groups _ ∙ ap (λ n. n + 1) h.groups;
              size = let e = h.size in omega (arith, e);
              writers = h.writers;
              metas = h.metas;
              scripts = h.scripts;
            };
            lanes = said.lanes;
            lines = said.lines;
            agendas = said.agendas;
          };
        }

-- ## writers

abbrev with_writer : List ℕ → Meta → Declared → Declared
with_writer name meta m = record m { writers = m.writers ++ name ∷ []; metas = m.metas ++ meta ∷ [] }

writer : (text rest : List ℕ) (c : ℕ) (cs document : List ℕ) (meta : Meta) (m : Declared) → is_word (c ∷ cs) ≡ true → is_word document ≡ true → nat_lt 0 (length document) ≡ true → is_name (c ∷ cs) ≡ true → is_some (place_of (c ∷ cs) m.writers) ≡ false → nat_lt (length m.writers) 64 ≡ true
    → metadata_in document ≡ Ok meta
    → Then text (line_then (codes "writer" ∷ (c ∷ cs) ∷ document ∷ []) rest) (IsSaid text m no_run) → Then text rest (IsSaid text (with_writer (c ∷ cs) meta m) no_run)
unfolding word_of row_of writer_of writer_named
writer text rest c cs document meta m good plain some named free small reads i =
    then_line text 119 (codes "riter") ((c ∷ cs) ∷ document ∷ []) rest (IsSaid text m no_run) (IsSaid text (with_writer (c ∷ cs) meta m) no_run) (both (is_word (c ∷ cs)) (is_word document && true) good (both (is_word document) true plain refl)) refl says i
  where
    positive : (n : ℕ) → nat_lt 0 n ≡ true → 0 < n
    positive n e = grind (arith, nat_tests)

    says : (d : SoFar) → IsSaid text m no_run d → (row_number at : ℕ) → map (bytes_of text) (spans_at at ((c ∷ cs) ∷ document ∷ [])) ≡ (c ∷ cs) ∷ document ∷ []
        → Says (λ said. IsSaid text (with_writer (c ∷ cs) meta m) no_run (after d said)) (placed_row_of text d row_number (end_of at ((c ∷ cs) ∷ document ∷ [])) (word_of (codes "writer")) (spans_at at ((c ∷ cs) ∷ document ∷ [])))
    says d said row_number at parts =
        let h = said.declared in
        let first = span_from at (at + length (c ∷ cs)) in
        let second = span_from (at + length (c ∷ cs) + 1) (at + length (c ∷ cs) + 1 + length document) in
        let name = head_is _ _ _ _ parts in
        let doc = head_is _ _ _ _ (tail_is _ _ _ _ parts) in
        let row : WriterPlan = record { name = first; meta = meta; script = [] } in
        let count : length d.writers ≡ length m.writers = sym (length-map d.writers (λ (w : WriterPlan). bytes_of text w.name)) ∙ ap length h.writers in
        let new : name_field text (is_some (writer_named text d.writers (bytes_of text first))) first ≡ Ok first
        = new_name text _ first (c ∷ cs) name named (ap₂ (λ x ns. is_some (place_of x ns)) name h.writers ∙ free) in
        record {
          said = saying.Writer row;
          is = ap₂ (λ (a b : Bool). if a && not b then writer_of text d (rest_fields (end_of at ((c ∷ cs) ∷ document ∷ [])) (spans_at at ((c ∷ cs) ∷ document ∷ []))) else Err Misplaced) h.opened (no_lane text d.lanes said.lanes)
              ∙ ap (writer_of text d) (rest_is at (c ∷ cs) document (positive (length document) some))
              ∙ ap (λ (r : Result Span Reason). r >>= (λ n. document_field text second >>= writer_if d n)) new
              ∙ ap (λ (bytes : List ℕ). described (metadata_in bytes) >>= writer_if d first) doc
              ∙ ap (λ (r : Result Meta Refusal). described r >>= writer_if d first) reads
              ∙ ap (λ (n : ℕ). if nat_lt n 64 then Ok (saying.Writer row) else Err TooMany) count
              ∙ ap (λ (t : Bool). if t then Ok (saying.Writer row) else Err TooMany) small;
          holds = record {
            declared = record {
              opened = h.opened;
              names = h.names;
              shapes = h.shapes;
              groups = h.groups;
              size = h.size;
              writers = map_push (λ (w : WriterPlan). bytes_of text w.name) d.writers row ∙ ap₂ (λ ns n. ns ++ n ∷ []) h.writers name;
              metas = map_push (λ (w : WriterPlan). w.meta) d.writers row ∙ ap (λ ms. ms ++ meta ∷ []) h.metas;
              scripts = map_push (λ (w : WriterPlan). w.script) d.writers row ∙ ap (λ ss. ss ++ [] ∷ []) h.scripts ∙ sym (map_push no_script m.metas meta);
            };
            lanes = said.lanes;
            lines = said.lines;
            agendas = said.agendas;
          };
        }

-- ## all of them

abbrev volumes_to : ℕ → Declared
volumes_to k = record { volumes = k; names = map volume_name (range_with_len 0 k); writers = []; metas = [] }

abbrev volume_words : ℕ → List (List ℕ)
volume_words v = codes "volume" ∷ volume_name v ∷ codes "256" ∷ codes "1024" ∷ []

volume_lines : (text rest : List ℕ)
    → Then text (line_then (volume_words 0) (line_then (volume_words 1) (line_then (volume_words 2) (line_then (volume_words 3) (line_then (volume_words 4) (line_then (volume_words 5) (line_then (volume_words 6) (line_then (volume_words 7) rest)))))))) (IsSaid text start no_run)
    → Then text rest (IsSaid text (volumes_to 8) no_run)
unfolding is_name
volume_lines text rest i =
    let v0 = volume text _ 118 (48 ∷ []) start refl refl refl refl i in
    let v1 = volume text _ 118 (49 ∷ []) (volumes_to 1) refl refl refl refl v0 in
    let v2 = volume text _ 118 (50 ∷ []) (volumes_to 2) refl refl refl refl v1 in
    let v3 = volume text _ 118 (51 ∷ []) (volumes_to 3) refl refl refl refl v2 in
    let v4 = volume text _ 118 (52 ∷ []) (volumes_to 4) refl refl refl refl v3 in
    let v5 = volume text _ 118 (53 ∷ []) (volumes_to 5) refl refl refl refl v4 in
    let v6 = volume text _ 118 (54 ∷ []) (volumes_to 6) refl refl refl refl v5 in
    volume text rest 118 (55 ∷ []) (volumes_to 7) refl refl refl refl v6

writer_lines : (text rest : List ℕ)
    → Then text (line_then (codes "writer" ∷ codes "sys" ∷ system_text ∷ []) (line_then (codes "writer" ∷ codes "db" ∷ database_text ∷ []) (line_then (codes "writer" ∷ codes "web" ∷ web_text ∷ []) rest))) (IsSaid text (volumes_to 8) no_run)
    → Then text rest (IsSaid text all_declared no_run)
unfolding is_name
writer_lines text rest i =
    let sys = writer text _ 115 (codes "ys") system_text system (volumes_to 8) refl refl refl refl refl refl system_read i in
    let db = writer text _ 100 (codes "b") database_text database (with_writer (codes "sys") system (volumes_to 8)) refl refl refl refl refl refl database_read sys in
    writer text rest 119 (codes "eb") web_text web (with_writer (codes "db") database (with_writer (codes "sys") system (volumes_to 8))) refl refl refl refl refl refl web_read db

pub declared_lines : (text rest : List ℕ) → Then text (as_lines declarations ++ rest) (λ d. d ≡ nothing) → Then text rest (IsSaid text all_declared no_run)
declared_lines text rest i = writer_lines text rest (volume_lines text _ (opened text _ i))
