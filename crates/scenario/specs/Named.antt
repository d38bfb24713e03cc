-- The names of a scenario that was read: each is a name by the grammar, and no two volumes, no two writers and no two lanes have the
-- same. The lines of lanes are numbered by the lines of the text. (This project's own format.)
use Rattle.std.specs.Prelude.{ℕ, ◌≡◌, ◌<◌, ◌+◌, true, false, List, [], ◌∷◌, length, map}
use Rattle.std.specs.Str.{bytes_eq}
use Rattle.scenario.specs.declared.span.Span.{Span}
use Rattle.scenario.specs.declared.volume_row.VolumeRow.{VolumeRow}
use Rattle.scenario.specs.Plan.{Plan, WriterPlan, LanePlan, LaneLine}
use Rattle.scenario.specs.Fields.{bytes_of}
use Rattle.vss_names.specs.Names.{is_name}
use Rattle.scenario.specs.SoFar.{SoFar}

-- each of these parts of the text is a name
abbrev pub AllNamed : List ℕ → List Span → Type 0
AllNamed text [] = Unit {0}
AllNamed text (span ∷ spans) = (is_name (bytes_of text span) ≡ true) × AllNamed text spans

-- none of these has the name of the first
abbrev pub Differ : List ℕ → Span → List Span → Type 0
Differ text first [] = Unit {0}
Differ text first (span ∷ spans) = (bytes_eq (bytes_of text first) (bytes_of text span) ≡ false) × Differ text first spans

abbrev pub Distinct : List ℕ → List Span → Type 0
Distinct text [] = Unit {0}
Distinct text (span ∷ spans) = Differ text span spans × Distinct text spans

abbrev pub volume_spans : List VolumeRow → List Span
volume_spans rows = map (λ (r : VolumeRow). r.name) rows

abbrev pub writer_spans : List WriterPlan → List Span
writer_spans ws = map (λ (w : WriterPlan). w.name) ws

abbrev pub lane_spans : List LanePlan → List Span
lane_spans ls = map (λ (l : LanePlan). l.name) ls

-- the numbers of these lines are below k
abbrev pub Numbered : ℕ → List LaneLine → Type 0
Numbered k [] = Unit {0}
Numbered k (l ∷ lines) = (l.number < k) × Numbered k lines

abbrev pub AllNumbered : ℕ → List LanePlan → Type 0
AllNumbered k [] = Unit {0}
AllNumbered k (l ∷ lanes) = Numbered k l.lines × AllNumbered k lanes

-- the names of what was read so far, before line k
pub record IsNamed (text : List ℕ) (k : ℕ) (d : SoFar) : Type 0 where
  pub volumes : AllNamed text (volume_spans d.volumes)
  pub writers : AllNamed text (writer_spans d.writers)
  pub lanes : AllNamed text (lane_spans d.lanes)
  pub volumes_apart : Distinct text (volume_spans d.volumes)
  pub writers_apart : Distinct text (writer_spans d.writers)
  pub lanes_apart : Distinct text (lane_spans d.lanes)
  pub lines : AllNumbered k d.lanes

pub record HasNames (s : Plan) : Type 0 where
  pub volumes : AllNamed s.source (volume_spans s.volumes)
  pub writers : AllNamed s.source (writer_spans s.writers)
  pub lanes : AllNamed s.source (lane_spans s.lanes)
  pub volumes_apart : Distinct s.source (volume_spans s.volumes)
  pub writers_apart : Distinct s.source (writer_spans s.writers)
  pub lanes_apart : Distinct s.source (lane_spans s.lanes)
  -- a text has at most one line more than bytes, and lines are counted from 1
  pub lines : AllNumbered (length s.source + 2) s.lanes
