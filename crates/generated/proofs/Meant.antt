-- What the lines of the generated text mean, apart from where its names stand.
use Rattle.std.proofs.Common.{◌≡◌, ◌∙◌, ℕ, zero, suc, ◌+◌, ◌*◌, Bool, true, false, List, [], ◌∷◌, ◌++◌, length, map, Option, Some, None, refl, ap, ap₂, arith, append_assoc, append-nil, codes, ◌<◌}
use Rattle.std.specs.Prelude.{◌&&◌, ◌||◌, not, cond, count_by, slice_get}
use Rattle.generated.proofs.Terms.{range_with_len, list_any, sum_by-cons, sum_by_push, Scripted, Meta, Op, Component, Span, WriterPlan, LanePlan, LaneLine}
use Rattle.generated.proofs.Terms.{bytes_of, begins_agenda, agenda_lines, is_begin, is_end, has_end, ends_sessions, volume_names, writer_names, lane_names}
use Rattle.generated.proofs.Terms.{SoFar, with_line, line_count, agenda_count, closed_lane, implied_end, shape_of, own_shape, lines_cons, agendas_cons}
use Rattle.scenario.specs.SoFar.{closed}

-- ## what is declared

-- so many volumes of these names, and the writers with their names and what they tell of themselves
pub record Declared : Type 0 where
  pub volumes : ℕ
  pub names : List (List ℕ)
  pub writers : List (List ℕ)
  pub metas : List Meta

abbrev pub no_script : Meta → List Scripted
no_script m = []

pub record IsDeclared (text : List ℕ) (m : Declared) (d : SoFar) : Type 0 where
  pub opened : d.opened ≡ true
  pub names : volume_names text d.volumes ≡ m.names
  pub shapes : map shape_of d.volumes ≡ map own_shape (range_with_len 0 m.volumes)
  pub groups : length d.groups ≡ m.volumes
  pub size : d.size ≡ 1280 * m.volumes
  pub writers : writer_names text d.writers ≡ m.writers
  pub metas : map (λ (w : WriterPlan). w.meta) d.writers ≡ m.metas
  pub scripts : map (λ (w : WriterPlan). w.script) d.writers ≡ map no_script m.metas

-- ## what lines mean

pub data Meaning : Type 0 where
  -- this and nothing else
  Does : Op → Meaning
  -- it names the component `main` of this writer
  NamesMain : ℕ → Meaning

pub record IsMain (text : List ℕ) (w : ℕ) (op : Op) : Type 0 where
  pub full : Span
  pub is : op ≡ Component w full
  pub name : bytes_of text full ≡ codes "main"

abbrev pub IsMeant : List ℕ → Meaning → Op → Type 0
IsMeant text (Does op) x = x ≡ op
IsMeant text (NamesMain w) x = IsMain text w x

abbrev pub AreMeant : List ℕ → List Meaning → List LaneLine → Type 0
AreMeant text [] [] = Unit {0}
AreMeant text [] (l ∷ ls) = ⊥
AreMeant text (x ∷ xs) [] = ⊥
AreMeant text (x ∷ xs) (l ∷ ls) = IsMeant text x l.op × AreMeant text xs ls

abbrev pub begins : Meaning → Bool
begins (Does op) = begins_agenda op
begins (NamesMain w) = false

abbrev starts : Meaning → Bool
starts (Does op) = is_begin op
starts (NamesMain w) = false

abbrev stops : Meaning → Bool
stops (Does op) = is_end op
stops (NamesMain w) = false

-- after each `begin` there is an `end`
abbrev pub all_end : List Meaning → Bool
all_end [] = true
all_end (x ∷ xs) = (not (starts x) || list_any stops xs) && all_end xs

pub begins_as : (text : List ℕ) (x : Meaning) (op : Op) → IsMeant text x op → begins_agenda op ≡ begins x
begins_as text x op h = grind arith

starts_as : (text : List ℕ) (x : Meaning) (op : Op) → IsMeant text x op → is_begin op ≡ starts x
starts_as text x op h = grind arith

stops_as : (text : List ℕ) (x : Meaning) (op : Op) → IsMeant text x op → is_end op ≡ stops x
stops_as text x op h = grind arith

has_end_as : (text : List ℕ) (xs : List Meaning) (ls : List LaneLine) → AreMeant text xs ls → has_end ls ≡ list_any stops xs
has_end_as text [] [] h = refl
has_end_as text [] (l ∷ ls) h = absurd h
has_end_as text (x ∷ xs) [] h = absurd h
has_end_as text (x ∷ xs) (l ∷ ls) h = ap₂ (λ (a b : Bool). a || b) (stops_as text x l.op h.0) (has_end_as text xs ls h.1)

ends_as : (text : List ℕ) (xs : List Meaning) (ls : List LaneLine) → AreMeant text xs ls → ends_sessions ls ≡ all_end xs
ends_as text [] [] h = refl
ends_as text [] (l ∷ ls) h = absurd h
ends_as text (x ∷ xs) [] h = absurd h
ends_as text (x ∷ xs) (l ∷ ls) h =
    ap₂ (λ (a b : Bool). (not a || b) && ends_sessions ls) (starts_as text x l.op h.0) (has_end_as text xs ls h.1)
    ∙ ap (λ (c : Bool). (not (starts x) || list_any stops xs) && c) (ends_as text xs ls h.1)

-- lines that end what they begin get no line more
closed_same : (text : List ℕ) (xs : List Meaning) (ls : List LaneLine) → AreMeant text xs ls → all_end xs ≡ true → closed ls ≡ ls
closed_same text xs ls h e = ap (λ (b : Bool). cond b ls (ls ++ implied_end ∷ [])) (ends_as text xs ls h ∙ e)

meant_snoc : (text : List ℕ) (xs : List Meaning) (ls : List LaneLine) (x : Meaning) (l : LaneLine) → AreMeant text xs ls → IsMeant text x l.op → AreMeant text (xs ++ x ∷ []) (ls ++ l ∷ [])
meant_snoc text [] [] x l h m = (m, tt)
meant_snoc text [] (y ∷ ls) x l h m = absurd h
meant_snoc text (y ∷ xs) [] x l h m = absurd h
meant_snoc text (y ∷ xs) (k ∷ ls) x l h m = (h.0, meant_snoc text xs ls x l h.1 m)

-- ## lanes

pub record LaneMeant : Type 0 where
  pub name : List ℕ
  pub whom : Option ℕ
  pub lines : List Meaning

pub record IsLane (text : List ℕ) (m : LaneMeant) (l : LanePlan) : Type 0 where
  pub name : bytes_of text l.name ≡ m.name
  pub whom : l.acts_as ≡ m.whom
  pub lines : AreMeant text m.lines l.lines

abbrev pub AreLanes : List ℕ → List LaneMeant → List LanePlan → Type 0
AreLanes text [] [] = Unit {0}
AreLanes text [] (l ∷ ls) = ⊥
AreLanes text (m ∷ ms) [] = ⊥
AreLanes text (m ∷ ms) (l ∷ ls) = IsLane text m l × AreLanes text ms ls

abbrev pub names_meant : List LaneMeant → List (List ℕ)
names_meant ms = map (λ (m : LaneMeant). m.name) ms

-- these lines more in the last lane
abbrev pub lines_more : List Meaning → List LaneMeant → List LaneMeant
lines_more xs [] = []
lines_more xs (m ∷ []) = record m { lines = m.lines ++ xs } ∷ []
lines_more xs (m ∷ next ∷ ms) = m ∷ lines_more xs (next ∷ ms)

pub lanes_names : (text : List ℕ) (ms : List LaneMeant) (ls : List LanePlan) → AreLanes text ms ls → lane_names text ls ≡ names_meant ms
lanes_names text [] [] h = refl
lanes_names text [] (l ∷ ls) h = absurd h
lanes_names text (m ∷ ms) [] h = absurd h
lanes_names text (m ∷ ms) (l ∷ ls) h = ap₂ (λ (x : List ℕ) (xs : List (List ℕ)). x ∷ xs) h.0.name (lanes_names text ms ls h.1)

pub lanes_whom : (text : List ℕ) (ms : List LaneMeant) (ls : List LanePlan) → AreLanes text ms ls → map (λ (l : LanePlan). l.acts_as) (map closed_lane ls) ≡ map (λ (m : LaneMeant). m.whom) ms
lanes_whom text [] [] h = refl
lanes_whom text [] (l ∷ ls) h = absurd h
lanes_whom text (m ∷ ms) [] h = absurd h
lanes_whom text (m ∷ ms) (l ∷ ls) h = ap₂ (λ (x : Option ℕ) (xs : List (Option ℕ)). x ∷ xs) h.0.whom (lanes_whom text ms ls h.1)

pub lanes_count : (text : List ℕ) (ms : List LaneMeant) (ls : List LanePlan) → AreLanes text ms ls → length ls ≡ length ms
lanes_count text [] [] h = refl
lanes_count text [] (l ∷ ls) h = absurd h
lanes_count text (m ∷ ms) [] h = absurd h
lanes_count text (m ∷ ms) (l ∷ ls) h = ap suc (lanes_count text ms ls h.1)

pub lanes_snoc : (text : List ℕ) (ms : List LaneMeant) (ls : List LanePlan) (m : LaneMeant) (l : LanePlan) → AreLanes text ms ls → IsLane text m l → AreLanes text (ms ++ m ∷ []) (ls ++ l ∷ [])
lanes_snoc text [] [] m l h k = (k, tt)
lanes_snoc text [] (y ∷ ls) m l h k = absurd h
lanes_snoc text (y ∷ ms) [] m l h k = absurd h
lanes_snoc text (n ∷ ms) (y ∷ ls) m l h k = (h.0, lanes_snoc text ms ls m l h.1 k)

pub lanes_with : (text : List ℕ) (ms : List LaneMeant) (ls : List LanePlan) (x : Meaning) (l : LaneLine) → AreLanes text ms ls → IsMeant text x l.op → AreLanes text (lines_more (x ∷ []) ms) (with_line l ls)
lanes_with text [] [] x l h k = tt
lanes_with text [] (y ∷ ls) x l h k = absurd h
lanes_with text (m ∷ ms) [] x l h k = absurd h
lanes_with text (m ∷ []) (y ∷ []) x l h k = (record { name = h.0.name; whom = h.0.whom; lines = meant_snoc text m.lines y.lines x l h.0.lines k }, tt)
lanes_with text (m ∷ []) (y ∷ z ∷ ls) x l h k = absurd h.1
lanes_with text (m ∷ n ∷ ms) (y ∷ []) x l h k = absurd h.1
lanes_with text (m ∷ n ∷ ms) (y ∷ z ∷ ls) x l h k = (h.0, lanes_with text (n ∷ ms) (z ∷ ls) x l h.1 k)

abbrev pub lines_at : Option LaneMeant → List Meaning
lines_at None = []
lines_at (Some m) = m.lines

-- the lines of a lane whose lines end what they begin
pub lane_lines : (text : List ℕ) (ms : List LaneMeant) (ls : List LanePlan) (i : ℕ) → AreLanes text ms ls → all_end (lines_at (slice_get ms i)) ≡ true
    → AreMeant text (lines_at (slice_get ms i)) (Rattle.scenario.specs.Plan.lines_in (slice_get (map closed_lane ls) i))
lane_lines text [] [] zero h e = tt
lane_lines text [] [] (suc i) h e = tt
lane_lines text [] (l ∷ ls) i h e = absurd h
lane_lines text (m ∷ ms) [] i h e = absurd h
lane_lines text (m ∷ ms) (l ∷ ls) zero h e = rw (closed_same text m.lines l.lines h.0.lines e) h.0.lines
lane_lines text (m ∷ ms) (l ∷ ls) (suc i) h e = lane_lines text ms ls i h.1 e

-- ## counts

agenda_snoc : (xs : List LaneLine) (x : LaneLine) → agenda_lines (xs ++ x ∷ []) ≡ agenda_lines xs + cond (begins_agenda x.op) 1 0
agenda_snoc xs x = sum_by_push (λ (l : LaneLine). cond (begins_agenda l.op) 1 0) xs x

pub agendas_with : (x : LaneLine) (lanes : List LanePlan) → 0 < length lanes → agenda_count (with_line x lanes) ≡ agenda_count lanes + cond (begins_agenda x.op) 1 0
agendas_with x [] e = absurd (omega (arith, e))
agendas_with x (l ∷ []) e =
    let more = agendas_cons (record l { lines = l.lines ++ x ∷ [] }) [] in
    let before = agendas_cons l [] in
    let one = agenda_snoc l.lines x in
    omega (arith, more, before, one)
agendas_with x (l ∷ next ∷ lanes) e =
    let more = agendas_cons l (with_line x (next ∷ lanes)) in
    let before = agendas_cons l (next ∷ lanes) in
    let rest = agendas_with x (next ∷ lanes) (omega arith) in
    omega (arith, more, before, rest)

pub count_new : (l : LanePlan) (lanes : List LanePlan) → l.lines ≡ [] → line_count (lanes ++ l ∷ []) ≡ line_count lanes
count_new l [] e = let none : length l.lines ≡ 0 = ap length e in let only = lines_cons l [] in omega (arith, none, only)
count_new l (m ∷ lanes) e =
    let more = lines_cons m (lanes ++ l ∷ []) in
    let before = lines_cons m lanes in
    let rest = count_new l lanes e in
    omega (arith, more, before, rest)

pub agendas_new : (l : LanePlan) (lanes : List LanePlan) → l.lines ≡ [] → agenda_count (lanes ++ l ∷ []) ≡ agenda_count lanes
agendas_new l [] e = let none : agenda_lines l.lines ≡ 0 = ap agenda_lines e in let only = agendas_cons l [] in omega (arith, none, only)
agendas_new l (m ∷ lanes) e =
    let more = agendas_cons m (lanes ++ l ∷ []) in
    let before = agendas_cons m lanes in
    let rest = agendas_new l lanes e in
    omega (arith, more, before, rest)

-- ## all that was said

-- the lanes, and how many lines they have, and how many of those may begin an agenda
pub record Run : Type 0 where
  pub lanes : List LaneMeant
  pub lines : ℕ
  pub agendas : ℕ

pub record IsSaid (text : List ℕ) (m : Declared) (run : Run) (d : SoFar) : Type 0 where
  pub declared : IsDeclared text m d
  pub lanes : AreLanes text run.lanes d.lanes
  pub lines : line_count d.lanes ≡ run.lines
  pub agendas : agenda_count d.lanes ≡ run.agendas

-- what is declared stays the same where the lanes change
pub still_declared : (text : List ℕ) (m : Declared) (d : SoFar) (lanes : List LanePlan) → IsDeclared text m d → IsDeclared text m (record d { lanes = lanes })
still_declared text m d lanes h = grind arith

-- with these lines more in the last lane
abbrev pub with_meant : List Meaning → Run → Run
with_meant xs run = record { lanes = lines_more xs run.lanes; lines = run.lines + length xs; agendas = run.agendas + count_by begins xs }

-- with a lane more, which has no lines
abbrev pub with_lane : List ℕ → Option ℕ → Run → Run
with_lane name whom run = record run { lanes = run.lanes ++ record { name = name; whom = whom; lines = [] } ∷ [] }

same_run : (lanes other : List LaneMeant) (lines more agendas begun : ℕ) → lanes ≡ other → lines ≡ more → agendas ≡ begun
    → ◌≡◌ {A = Run} (record { lanes = lanes; lines = lines; agendas = agendas }) (record { lanes = other; lines = more; agendas = begun })
same_run lanes other lines more agendas begun e f g = cc

more_nothing : (ms : List LaneMeant) → lines_more [] ms ≡ ms
more_nothing [] = refl
more_nothing (m ∷ []) = ap (λ (xs : List Meaning). record m { lines = xs } ∷ []) (append-nil m.lines)
more_nothing (m ∷ next ∷ ms) = ap (λ (xs : List LaneMeant). m ∷ xs) (more_nothing (next ∷ ms))

more_twice : (xs ys : List Meaning) (ms : List LaneMeant) → lines_more ys (lines_more xs ms) ≡ lines_more (xs ++ ys) ms
more_twice xs ys [] = refl
more_twice xs ys (m ∷ []) = ap (λ (zs : List Meaning). record m { lines = zs } ∷ []) (append_assoc m.lines xs ys)
more_twice xs ys (m ∷ next ∷ []) = ap (λ (zs : List LaneMeant). m ∷ zs) (more_twice xs ys (next ∷ []))
more_twice xs ys (m ∷ next ∷ third ∷ ms) = ap (λ (zs : List LaneMeant). m ∷ zs) (more_twice xs ys (next ∷ third ∷ ms))

pub with_nothing : (run : Run) → with_meant [] run ≡ run
with_nothing run = grind (arith, same_run, more_nothing)

pub begins_cons : (x : Meaning) (xs : List Meaning) → count_by begins (x ∷ xs) ≡ cond (begins x) 1 0 + count_by begins xs
begins_cons x xs = sum_by-cons (λ (y : Meaning). cond (begins y) 1 0) x xs

pub with_first : (x : Meaning) (xs : List Meaning) (run : Run) → with_meant xs (with_meant (x ∷ []) run) ≡ with_meant (x ∷ xs) run
with_first x xs run = grind (arith, begins_cons, same_run, more_twice)

-- the lines go into the lane that began last
pub into_last : (xs : List Meaning) (ms : List LaneMeant) (name : List ℕ) (whom : Option ℕ)
    → lines_more xs (ms ++ record { name = name; whom = whom; lines = [] } ∷ []) ≡ ms ++ record { name = name; whom = whom; lines = xs } ∷ []
into_last xs (m ∷ next ∷ ms) name whom = ap (λ (zs : List LaneMeant). m ∷ zs) (into_last xs (next ∷ ms) name whom)
into_last xs _ name whom = refl
