-- Names in a scenario: areas, volumes, writers and lanes have names apart from each other. (This project's own format.)
use Rattle.std.specs.Prelude.{ℕ, List, map, position, Option}
use Rattle.std.specs.Str.{bytes_eq}
use Rattle.scenario.specs.declared.area_row.AreaRow.{AreaRow}
use Rattle.scenario.specs.declared.volume_row.VolumeRow.{VolumeRow}
use Rattle.scenario.specs.Plan.{WriterPlan, LanePlan}
use Rattle.scenario.specs.Fields.{bytes_of}

-- the place of a name among these
abbrev pub place_of : List ℕ → List (List ℕ) → Option ℕ
place_of name names = position (λ other. bytes_eq name other) names

-- ## names by kind, in order of declaration

abbrev pub area_names : List ℕ → List AreaRow → List (List ℕ)
area_names text areas = map (λ (a : AreaRow). bytes_of text a.name) areas

abbrev pub volume_names : List ℕ → List VolumeRow → List (List ℕ)
volume_names text rows = map (λ (r : VolumeRow). bytes_of text r.name) rows

abbrev pub writer_names : List ℕ → List WriterPlan → List (List ℕ)
writer_names text writers = map (λ (w : WriterPlan). bytes_of text w.name) writers

abbrev pub lane_names : List ℕ → List LanePlan → List (List ℕ)
lane_names text lanes = map (λ (l : LanePlan). bytes_of text l.name) lanes

-- ## the number of what has this name

unfoldable pub area_named : List ℕ → List AreaRow → List ℕ → Option ℕ
area_named text areas name = place_of name (area_names text areas)

unfoldable pub volume_named : List ℕ → List VolumeRow → List ℕ → Option ℕ
volume_named text rows name = place_of name (volume_names text rows)

unfoldable pub writer_named : List ℕ → List WriterPlan → List ℕ → Option ℕ
writer_named text writers name = place_of name (writer_names text writers)

unfoldable pub lane_named : List ℕ → List LanePlan → List ℕ → Option ℕ
lane_named text lanes name = place_of name (lane_names text lanes)
