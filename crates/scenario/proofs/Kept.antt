-- What one line says keeps what is read within the limits of the language.
use Rattle.std.proofs.Common.{◌≡◌, ℕ, ◌+◌, ◌<◌, ◌≤◌, true, List, [], ◌∷◌, ◌++◌, length, set, All, Option, Some, None, refl, ap, subst, ◌∙◌, arith, length-append}
use Rattle.std.specs.Prelude.{slice_get}
use Rattle.std.proofs.lemmas.List.{length-set, map_push, map-set}
use Rattle.std.proofs.lemmas.List.Elements.{All-nil, All-push, All-same, All-set}
use Rattle.std.proofs.lemmas.Option.{slice_get_within, slice_get-map, get_or_from_slice_get}
use Rattle.std.proofs.lemmas.Grind.{common_steps}
use Rattle.writer_meta.specs.Metadata.{meta_of}
use Rattle.scenario.specs.declared.span.Span.{Span}
use Rattle.scenario.specs.declared.area_row.AreaRow.{AreaRow}
use Rattle.scenario.specs.declared.volume_row.VolumeRow.{VolumeRow}
use Rattle.scenario.specs.declared.op.Op.{Op}
use Rattle.scenario.specs.declared.entry.Entry.{Entry}
use Rattle.scenario.specs.declared.entry.Entry.TheVariants as entry
use Rattle.scenario.specs.Plan.{GroupPlan, WriterPlan, LaneLine, LanePlan}
use Rattle.scenario.specs.Bounds.{IsInGroup, begins_agenda, IsGroupRow, IsRow, IsNth, IsWriterRow, IsRanged}
use Rattle.scenario.specs.Names.{area_names}
use Rattle.scenario.specs.SoFar.{SoFar, after, new_area, own_group, with_answer, line_count, agenda_count, answer_count}
use Rattle.scenario.specs.SoFar as saying
use Rattle.scenario.specs.Drafts.{DraftValue, with_entry, saying_in, names_after, counts_after, agendas_with, IsAreaRow, IsLaneRow, IsWithin, AreNames, AreCounts, IsDraft, IsEntry}
use Rattle.scenario.proofs.Whole.{lines_more, agendas_more, lane_names_stay, lane_count_stays, lanes_more, lines_in_new, agendas_in_new, answers_more}
use Rattle.scenario.proofs.Whole.{writer_names_stay, writer_count_stays, writers_more, answers_in_new}
use Rattle.scenario.proofs.Places.{get_last, set_same, numbered_new, numbered_old, all_in_more_groups, in_new_group, in_old_group, areas_with_more_groups}

-- ## the limits

no_lanes : (P : LanePlan → Type 0) (lanes : List LanePlan) → lanes ≡ [] → All P lanes
no_lanes P lanes e = All-same P lanes [] e (All-nil P)

few_agendas_more : (n : ℕ) (op : Op) → n ≤ 2000 → (begins_agenda op ≡ true → n < 2000) → agendas_with n op ≤ 2000
few_agendas_more n op few less = grind arith

one_volume_more : (rows : List VolumeRow) (row : VolumeRow) → length rows < 128 → length (rows ++ row ∷ []) ≤ 128
one_volume_more rows row few = omega (arith, length-append rows (row ∷ []))

-- a volume in the group that comes next, whose areas are these
new_group : (n : ℕ) (d : SoFar) (row : VolumeRow) (g : GroupPlan) (areas : List AreaRow) (size : ℕ) → IsWithin n d → IsRow n row → IsGroupRow n g → length d.volumes < 128 → row.group ≡ length d.groups → row.slots ≡ g.slots
    → d.size + size ≤ 131072 → d.lanes ≡ [] → All (IsAreaRow n (d.groups ++ g ∷ [])) areas → length areas ≡ length d.areas
    → IsWithin n (record d { areas = areas; volumes = d.volumes ++ row ∷ []; groups = d.groups ++ g ∷ []; size = d.size + size })
new_group n d row g areas size h limits group few number slots small none stand same =
    record {
      areas = stand;
      few_areas = let old : length d.areas ≤ 128 = h.few_areas in omega arith;
      volumes = All-push (IsRow n) d.volumes row h.volumes limits;
      few_volumes = one_volume_more d.volumes row few;
      groups = All-push (IsGroupRow n) d.groups g h.groups group;
      few_groups = let old : length d.groups ≤ length d.volumes = h.few_groups in omega (arith, length-append d.volumes (row ∷ []), length-append d.groups (g ∷ []));
      in_groups = All-push (IsInGroup (d.groups ++ g ∷ [])) d.volumes row (all_in_more_groups d.groups g d.volumes h.in_groups) (in_new_group d.groups g row number slots);
      numbered = numbered_new 0 (length d.groups) d.volumes row h.numbered number ∙ ap (λ k. Some k) (omega (arith, length-append d.groups (g ∷ [])));
      small = small;
      writers = h.writers;
      few_writers = h.few_writers;
      few_answers = h.few_answers;
      lanes = no_lanes (IsLaneRow n (d.volumes ++ row ∷ []) (length d.writers)) d.lanes none;
      few_lanes = h.few_lanes;
      few_lines = h.few_lines;
      few_agendas = h.few_agendas;
    }

-- a volume in a group that is there
old_group : (n : ℕ) (d : SoFar) (row : VolumeRow) (g : GroupPlan) (areas : List AreaRow) (size : ℕ) → IsWithin n d → IsRow n row → length d.volumes < 128 → slice_get d.groups row.group ≡ Some g → row.slots ≡ g.slots
    → d.size + size ≤ 131072 → d.lanes ≡ [] → All (IsAreaRow n d.groups) areas → length areas ≡ length d.areas → IsWithin n (record d { areas = areas; volumes = d.volumes ++ row ∷ []; size = d.size + size })
old_group n d row g areas size h limits few found slots small none stand same =
    let within : row.group < length d.groups = slice_get_within d.groups row.group g found in
    record {
      areas = stand;
      few_areas = let old : length d.areas ≤ 128 = h.few_areas in omega arith;
      volumes = All-push (IsRow n) d.volumes row h.volumes limits;
      few_volumes = one_volume_more d.volumes row few;
      groups = h.groups;
      few_groups = let old : length d.groups ≤ length d.volumes = h.few_groups in omega (arith, length-append d.volumes (row ∷ []));
      in_groups = All-push (IsInGroup d.groups) d.volumes row h.in_groups (in_old_group d.groups g row within found slots);
      numbered = numbered_old 0 (length d.groups) d.volumes row h.numbered within;
      small = small;
      writers = h.writers;
      few_writers = h.few_writers;
      few_answers = h.few_answers;
      lanes = no_lanes (IsLaneRow n (d.volumes ++ row ∷ []) (length d.writers)) d.lanes none;
      few_lanes = h.few_lanes;
      few_lines = h.few_lines;
      few_agendas = h.few_agendas;
    }

at_all : {X : Type 0} (P : X → Type 0) (xs : List X) (i : ℕ) (x : X) → slice_get xs i ≡ Some x → All P xs → P x
at_all P xs i x e h = subst P (get_or_from_slice_get xs i x x e) (h i x (slice_get_within xs i x e))

abbrev area_row : Span → ℕ → Option ℕ → AreaRow
area_row name slots o = record { name = name; slots = slots; group = o }

shared : (n : ℕ) (d : SoFar) (row : VolumeRow) (a : ℕ) (name : Span) (slots : ℕ) (o : Option ℕ) → IsWithin n d → IsRow n row → length d.volumes < 128 → d.size + row.blocks ≤ 131072 → d.lanes ≡ []
    → slice_get d.areas a ≡ Some (area_row name slots o) → row.group ≡ saying.group_for d.groups (area_row name slots o) → row.slots ≡ slots
    → IsWithin n (after d (saying.SharedVolume row a (area_row name slots o)))
shared n d row a name slots None h limits few small none found number same =
    let g : GroupPlan = record { name = name; slots = slots } in
    let old : IsAreaRow n d.groups (area_row name slots None) = at_all (IsAreaRow n d.groups) d.areas a (area_row name slots None) found h.areas in
    let stands : slice_get (d.groups ++ g ∷ []) row.group ≡ Some g = rw number (get_last d.groups g) in
    new_group n d row g (set d.areas a (area_row name slots (Some row.group))) row.blocks h limits old.declared few number same small none
    (All-set (IsAreaRow n (d.groups ++ g ∷ [])) d.areas a (area_row name slots (Some row.group)) (record { declared = old.declared; group = stands }) (areas_with_more_groups n d.groups g d.areas h.areas))
    (length-set d.areas a (area_row name slots (Some row.group)))
shared n d row a name slots (Some i) h limits few small none found number same =
    let g : GroupPlan = record { name = name; slots = slots } in
    let old : IsAreaRow n d.groups (area_row name slots (Some i)) = at_all (IsAreaRow n d.groups) d.areas a (area_row name slots (Some i)) found h.areas in
    let stands : slice_get d.groups row.group ≡ Some g = rw number old.group in
    old_group n d row g (set d.areas a (area_row name slots (Some row.group))) row.blocks h limits few stands same small none
    (All-set (IsAreaRow n d.groups) d.areas a (area_row name slots (Some row.group)) (record { declared = old.declared; group = stands }) h.areas)
    (length-set d.areas a (area_row name slots (Some row.group)))

pub within_after : (text : List ℕ) (d : DraftValue) (e : Entry) → IsWithin (length text) d.said → IsEntry text d e → IsWithin (length text) (after d.said (saying_in e))
within_after text d entry.Skipped h g = h
within_after text d entry.Opening h g = grind (arith, common_steps)
within_after text d (entry.Area area) h g =
    record {
      areas = All-push (IsAreaRow (length text) d.said.groups) d.said.areas (new_area area) h.areas (record { declared = g.limits; group = tt });
      few_areas = let few : length d.said.areas < 128 = g.few in omega (arith, length-append d.said.areas (new_area area ∷ []));
      volumes = h.volumes;
      few_volumes = h.few_volumes;
      groups = h.groups;
      few_groups = h.few_groups;
      in_groups = h.in_groups;
      numbered = h.numbered;
      small = g.small;
      writers = h.writers;
      few_writers = h.few_writers;
      few_answers = h.few_answers;
      lanes = h.lanes;
      few_lanes = h.few_lanes;
      few_lines = h.few_lines;
      few_agendas = h.few_agendas;
    }
within_after text d (entry.OwnVolume row) h g =
    let v = g.0 in let fact = new_group (length text) d.said row (own_group row) d.said.areas (row.blocks + row.slots) h v.limits in
    grind (arith, common_steps, areas_with_more_groups (length text) d.said.groups (own_group row) d.said.areas h.areas)
within_after text d (entry.SharedVolume row a area) h g =
    let v = g.0 in grind (arith, common_steps, shared (length text) d.said row a area.name area.slots area.group h v.limits v.few v.small v.before_lanes)
within_after text d (entry.Writer name metadata) h g =
    let writer : WriterPlan = record { name = name; meta = meta_of metadata; script = [] } in
    record {
      areas = h.areas;
      few_areas = h.few_areas;
      volumes = h.volumes;
      few_volumes = h.few_volumes;
      groups = h.groups;
      few_groups = h.few_groups;
      in_groups = h.in_groups;
      numbered = h.numbered;
      small = h.small;
      writers = All-push (IsWriterRow (length text)) d.said.writers writer h.writers (record { name = g.0.short; allowed = g.1; nths = All-nil IsNth });
      few_writers = let few : length d.said.writers < 64 = g.2 in omega (arith, length-append d.said.writers (writer ∷ []));
      few_answers = let old : answer_count d.said.writers ≤ 10000 = h.few_answers in omega (arith, answers_in_new d.said.writers writer refl);
      lanes = no_lanes (IsLaneRow (length text) d.said.volumes (length (d.said.writers ++ writer ∷ []))) d.said.lanes g.3;
      few_lanes = h.few_lanes;
      few_lines = h.few_lines;
      few_agendas = h.few_agendas;
    }
within_after text d (entry.Answer w row) h g =
    record {
      areas = h.areas;
      few_areas = h.few_areas;
      volumes = h.volumes;
      few_volumes = h.few_volumes;
      groups = h.groups;
      few_groups = h.few_groups;
      in_groups = h.in_groups;
      numbered = h.numbered;
      small = h.small;
      writers = writers_more (IsWriterRow (length text)) w row d.said.writers (λ x k. record { name = k.name; allowed = k.allowed; nths = All-push IsNth x.script row k.nths g.nth }) h.writers;
      few_writers = let old : length d.said.writers ≤ 64 = h.few_writers in omega (arith, writer_count_stays w row d.said.writers);
      few_answers = let few : answer_count d.said.writers < 10000 = g.few in omega (arith, answers_more w row d.said.writers g.known);
      lanes = no_lanes (IsLaneRow (length text) d.said.volumes (length (with_answer w row d.said.writers))) d.said.lanes g.before_lanes;
      few_lanes = h.few_lanes;
      few_lines = h.few_lines;
      few_agendas = h.few_agendas;
    }
within_after text d (entry.Lane name whom) h g =
    let lane : LanePlan = record { name = name; acts_as = whom; lines = [] } in
    record {
      areas = h.areas;
      few_areas = h.few_areas;
      volumes = h.volumes;
      few_volumes = h.few_volumes;
      groups = h.groups;
      few_groups = h.few_groups;
      in_groups = h.in_groups;
      numbered = h.numbered;
      small = h.small;
      writers = h.writers;
      few_writers = h.few_writers;
      few_answers = h.few_answers;
      lanes = All-push (IsLaneRow (length text) d.said.volumes (length d.said.writers)) d.said.lanes lane h.lanes
          (record { name = g.0.short; whom = g.1; ops = All-nil (λ (l : LaneLine). IsRanged (length text) d.said.volumes (length d.said.writers) l.op) });
      few_lanes = let few : length d.said.lanes < 64 = g.2 in omega (arith, length-append d.said.lanes (lane ∷ []));
      few_lines = let old : line_count d.said.lanes ≤ 100000 = h.few_lines in omega (arith, lines_in_new d.said.lanes lane refl);
      few_agendas = let old : agenda_count d.said.lanes ≤ 2000 = h.few_agendas in omega (arith, agendas_in_new d.said.lanes lane refl);
    }
within_after text d (entry.Line line) h g =
    record {
      areas = h.areas;
      few_areas = h.few_areas;
      volumes = h.volumes;
      few_volumes = h.few_volumes;
      groups = h.groups;
      few_groups = h.few_groups;
      in_groups = h.in_groups;
      numbered = h.numbered;
      small = h.small;
      writers = h.writers;
      few_writers = h.few_writers;
      few_answers = h.few_answers;
      lanes = lanes_more (IsLaneRow (length text) d.said.volumes (length d.said.writers)) line d.said.lanes
          (λ l k. record { name = k.name; whom = k.whom; ops = All-push (λ (x : LaneLine). IsRanged (length text) d.said.volumes (length d.said.writers) x.op) l.lines line k.ops g.ranged }) h.lanes;
      few_lanes = let old : length d.said.lanes ≤ 64 = h.few_lanes in omega (arith, lane_count_stays line d.said.lanes);
      few_lines = let few : line_count d.said.lanes < 100000 = g.few in omega (arith, lines_more line d.said.lanes g.in_lane);
      few_agendas = rw (agendas_more line d.said.lanes g.in_lane) (few_agendas_more (agenda_count d.said.lanes) line.op h.few_agendas g.few_agendas);
    }

-- ## the names

area_names_stay : (text : List ℕ) (areas : List AreaRow) (a : ℕ) (area : AreaRow) (g : ℕ) → slice_get areas a ≡ Some area → area_names text (set areas a (record area { group = Some g })) ≡ area_names text areas
area_names_stay text areas a area g found = grind (arith, map-set, set_same, slice_get-map)

pub names_stay : (text : List ℕ) (d : DraftValue) (e : Entry) → AreNames text d.said d.names → IsEntry text d e → AreNames text (after d.said (saying_in e)) (names_after text d.names (saying_in e))
names_stay text d e h g = grind (arith, map_push, area_names_stay, writer_names_stay, lane_names_stay)

-- ## the counts

pub counts_stay : (text : List ℕ) (d : DraftValue) (e : Entry) → AreCounts d.said d.counts → IsEntry text d e → AreCounts (after d.said (saying_in e)) (counts_after d.counts (saying_in e))
counts_stay text d e h g = grind (arith, answers_in_new, answers_more, lines_in_new, agendas_in_new, lines_more, agendas_more)

-- ## all of it

pub kept : (text : List ℕ) (d : DraftValue) (e : Entry) → IsDraft text d → IsEntry text d e → IsDraft text (with_entry text d e)
kept text d e h g = record { within = within_after text d e h.within g; names = names_stay text d e h.names g; counts = counts_stay text d e h.counts g }
