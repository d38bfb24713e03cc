-- The writers of a scenario, registered one after another: none has the name of one before it.
use Rattle.std.proofs.Common.{◌≡◌, ℕ, zero, suc, ◌+◌, ◌≤◌, List, [], ◌∷◌, ◌++◌, length, refl, ap, sym, ◌∙◌, subst, arith, take, Bool, false, Option, Some, None, map, slice_get, option_map, Result}
use Rattle.std.proofs.Common.{if◌then◌else◌}
use Rattle.vss_world.proofs.Words.{AreFirst, CoordinatorState, Course, Differ, Distinct, HasNames, HasRegistered, IsOnTime, Keeps, Meta, Metadata, Plan, RegisterFault, Registered, SessionsValue, Span}
use Rattle.vss_world.proofs.Words.{WriterPlan, WriterRow, bytes_eq, bytes_eq-Decides, bytes_of, course_start, double_of, false_from_ne_true, first_row, map-append, map-map}
use Rattle.vss_world.proofs.Words.{meta_of, place_of, position_from, position_from-zero, registered_as, registered_in, row_of_writer, start, take_all, token, true_not_false, writer_count}
use Rattle.vss_world.proofs.Words.{writer_spans}
use Rattle.vss_world.specs.Words.{Stands}
use Rattle.cow_volume.proofs.Reverting.{take_next}

-- ## the writer at a place

record IsWriterAt (s : Plan) (k : ℕ) (span : Span) : Type 0 where
  writer : WriterPlan
  at : slice_get s.writers k ≡ Some writer
  name : writer.name ≡ span

writer_at : (s : Plan) (k : ℕ) (span : Span) (found : Option WriterPlan) → slice_get s.writers k ≡ found → option_map (λ (w : WriterPlan). w.name) found ≡ Some span → IsWriterAt s k span
writer_at s k span found at e = grind arith

-- ## no two have one name

swapped : (a b : List ℕ) → bytes_eq a b ≡ false → bytes_eq b a ≡ false
swapped a b e = false_from_ne_true (bytes_eq b a) (λ f. true_not_false (bytes_eq a b) ((bytes_eq-Decides a b).1 (sym ((bytes_eq-Decides b a).0 f))) e)

differs : (text : List ℕ) (first : Span) (ws : List WriterPlan) (k : ℕ) (w : WriterPlan) → slice_get ws k ≡ Some w → Differ text first (writer_spans ws)
    → bytes_eq (bytes_of text first) (bytes_of text w.name) ≡ false
differs text first [] k w at h = cc
differs text first (p ∷ ws) zero w at h = let same : p ≡ w = cc in subst (λ (z : WriterPlan). bytes_eq (bytes_of text first) (bytes_of text z.name) ≡ false) same h.0
differs text first (p ∷ ws) (suc k) w at h = differs text first ws k w at h.1

-- none of the first k has the name of the writer after them
apart_from : (s : Plan) (ws : List WriterPlan) (k : ℕ) (w : WriterPlan) (n : ℕ) → slice_get ws k ≡ Some w → Distinct s.source (writer_spans ws)
    → position_from (λ (r : Registered). bytes_eq (token s w.name) r.name) n (map (registered_as s) (take k ws)) ≡ None
apart_from s [] k w n at h = cc
apart_from s (p ∷ ws) zero w n at h = refl
apart_from s (p ∷ ws) (suc k) w n at h =
    ap (λ (b : Bool). if b then Some n else position_from (λ (r : Registered). bytes_eq (token s w.name) r.name) (n + 1) (map (registered_as s) (take k ws)))
    (swapped (token s p.name) (token s w.name) (differs s.source p.name ws k w at h.0))
    ∙ apart_from s ws k w (n + 1) at h.1

pub no_double : (s : Plan) (k : ℕ) (x : CoordinatorState) (span : Span) (name : List ℕ) (result : Result ℕ RegisterFault) (at : ℕ) → HasNames s → HasRegistered s k x
    → option_map (λ (w : WriterPlan). w.name) (slice_get s.writers k) ≡ Some span
    → name ≡ token s span → double_of result ≡ place_of name x.writers → double_of result ≡ Some at → ⊥
no_double s k x span name result at names before e is says double =
    let w = writer_at s k span (slice_get s.writers k) refl e in
    let own : name ≡ token s w.writer.name = is ∙ ap (token s) (sym w.name) in
    let none : place_of name x.writers ≡ None =
    ap (λ (z : List ℕ). place_of z x.writers) own ∙ ap (place_of (token s w.writer.name)) before.writers
    ∙ position_from-zero (λ (r : Registered). bytes_eq (token s w.writer.name) r.name) (map (registered_as s) (take k s.writers)) ∙ apart_from s s.writers k w.writer 0 w.at names.writers_apart in
    let no : Some at ≡ None = sym double ∙ says ∙ none in
    cc

-- ## one writer more

more : {X Y : Type 0} (f : X → Y) (xs : List X) (k : ℕ) (x : X) → slice_get xs k ≡ Some x → map f (take (k + 1) xs) ≡ map f (take k xs) ++ f x ∷ []
more f xs k x at = ap (map f) (take_next xs k x at) ∙ map-append f (take k xs) (x ∷ [])

pub registers : (s : Plan) (k : ℕ) (old new : CoordinatorState) (span : Span) (name : List ℕ) (found given : Metadata) → HasRegistered s k old
    → option_map (λ (w : WriterPlan). w.name) (slice_get s.writers k) ≡ Some span
    → option_map (λ (w : WriterPlan). w.meta) (slice_get s.writers k) ≡ Some (meta_of found) → meta_of given ≡ meta_of found → name ≡ token s span
    → ((c : Course) → Stands old c → Stands new (registered_in given.level given.freeze_timeout c)) → new.writers ≡ old.writers ++ record { name = name; class = given.class } ∷ []
    → writer_count new ≡ writer_count old + 1 → ((now : ℕ) → IsOnTime now old → IsOnTime now new) → new.posts ≡ old.posts → HasRegistered s (k + 1) new
registers s k old new span name found given before e meta copied is stands writers count times posts =
    let w = writer_at s k span (slice_get s.writers k) refl e in
    let same : meta_of given ≡ w.writer.meta = copied
    ∙ (let same : Some (meta_of found) ≡ Some w.writer.meta = sym meta ∙ ap (option_map (λ (x : WriterPlan). x.meta)) w.at in cc) in
    let row : first_row given.level given.freeze_timeout ≡ row_of_writer w.writer = ap (λ (m : Meta). first_row m.level m.freeze_timeout) same in
    let rows : map row_of_writer (take k s.writers) ++ first_row given.level given.freeze_timeout ∷ [] ≡ map row_of_writer (take (k + 1) s.writers) =
    ap (λ (r : WriterRow). map row_of_writer (take k s.writers) ++ r ∷ []) row ∙ sym (more row_of_writer s.writers k w.writer w.at) in
    let entry : record { name = name; class = given.class } ≡ registered_as s w.writer =
    ap (λ (z : List ℕ). record { name = z; class = given.class }) (is ∙ ap (token s) (sym w.name)) ∙ ap (λ (m : Meta). record { name = token s w.writer.name; class = m.class }) same in
    record {
      stands = subst (λ (rs : List WriterRow). Stands new (course_start rs)) rows (stands (course_start (map row_of_writer (take k s.writers))) before.stands);
      writers = writers ∙ ap (λ (rs : List Registered). rs ++ record { name = name; class = given.class } ∷ []) before.writers
          ∙ ap (λ (r : Registered). map (registered_as s) (take k s.writers) ++ r ∷ []) entry
          ∙ sym (more (registered_as s) s.writers k w.writer w.at);
      count = count ∙ ap (λ n. n + 1) before.count;
      times = times 0 before.times;
      posts = posts ∙ before.posts;
    }

-- after the last
pub all_registered : (s : Plan) (k : ℕ) (x : SessionsValue) (c : CoordinatorState) → length s.writers ≤ k → k ≤ length s.writers → HasRegistered s k c
    → ((t : Plan) → Stands c (start t).course → Keeps x (start t)) → x.coordinator ≡ c → x.clock ≡ 0 → AreFirst s x
all_registered s k x c past within has keeps same clock = grind (arith, take_all, map-map)
