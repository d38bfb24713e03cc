-- The facts that every act keeps together.
use Rattle.std.proofs.Common.{◌≡◌, ℕ, ◌+◌, ◌==◌, zero, suc, List, [], ◌∷◌, ◌++◌, Option, Some, None, refl, Bool, true, false, map, filter, ◌∙◌, find, length, arith}
use Rattle.std.specs.Prelude.{option_map, ◌&&◌, ◌||◌, not, if◌then◌else◌}
use Rattle.vss_model.proofs.Terms.{common_steps, SetOutcome, Running, Image, History, dropped, without_set, change_at, SetRow, is_running, row_settled}
use Rattle.vss_model.proofs.Terms.{NumberedFrom, OverButNewest, has_failed, is_live, AreLive, AllLive, nat_tests}
use Rattle.vss_model.proofs.StateForm.{images_dropped}

pub true_not_false : (b : Bool) → b ≡ true → b ≡ false → ⊥
true_not_false b e f = grind arith

-- ## rows that keep their numbers and results

-- a change of a row that keeps its number, and whether it runs and whether it has failed
pub record IsSameRow (f : SetRow → SetRow) : Type 0 where
  pub number : (r : SetRow) → (f r).number ≡ r.number
  pub running : (r : SetRow) → is_running (f r).result ≡ is_running r.result
  pub failed : (r : SetRow) → has_failed (f r).result ≡ has_failed r.result

pub numbered-map : (f : SetRow → SetRow) → ((r : SetRow) → (f r).number ≡ r.number) → (n : ℕ) (rows : List SetRow) → NumberedFrom n rows → NumberedFrom n (map f rows)
numbered-map f same n [] h = tt
numbered-map f same n (r ∷ rows) h = (same r ∙ h.0, numbered-map f same (n + 1) rows h.1)

pub newest-map : (f : SetRow → SetRow) → IsSameRow f → (rows : List SetRow) → OverButNewest rows → OverButNewest (map f rows)
newest-map f same (r ∷ q ∷ rows) h = (same.running r ∙ h.0, newest-map f same (q ∷ rows) h.1)
newest-map f same _ h = tt

pub find-map : (f : SetRow → SetRow) → ((r : SetRow) → is_running (f r).result ≡ is_running r.result) → (rows : List SetRow) → find (λ r. is_running r.result) (map f rows) ≡ option_map f (find (λ r. is_running r.result) rows)
find-map f same [] = refl
find-map f same (r ∷ rows) = grind (arith, same r, find-map f same rows)

pub live-map : (f : SetRow → SetRow) → IsSameRow f → (rows : List SetRow) (n : ℕ) → is_live (map f rows) n ≡ is_live rows n
live-map f same [] n = refl
live-map f same (r ∷ rows) n = let ih = live-map f same rows n in grind (arith, common_steps)

-- ## live images

are_live_along : (rows new : List SetRow) → ((n : ℕ) → is_live rows n ≡ true → is_live new n ≡ true) → (images : List Image) → AreLive rows images → AreLive new images
are_live_along rows new keeps [] h = tt
are_live_along rows new keeps (i ∷ images) h = (keeps i.set h.0, are_live_along rows new keeps images h.1)

pub all_live_along : (rows new : List SetRow) → ((n : ℕ) → is_live rows n ≡ true → is_live new n ≡ true) → (hs : List History) → AllLive rows hs → AllLive new hs
all_live_along rows new keeps [] h = tt
all_live_along rows new keeps (x ∷ hs) h = (are_live_along rows new keeps x.images h.0, all_live_along rows new keeps hs h.1)

-- fewer images
pub live-filter : (test : Image → Bool) (rows : List SetRow) (images : List Image) → AreLive rows images → AreLive rows (filter test images)
live-filter test rows [] h = tt
live-filter test rows (i ∷ images) h = grind (arith, h.0, live-filter test rows images h.1)

pub live-append : (rows : List SetRow) (images : List Image) (i : Image) → AreLive rows images → is_live rows i.set ≡ true → AreLive rows (images ++ i ∷ [])
live-append rows [] i h e = (e, tt)
live-append rows (x ∷ images) i h e = (h.0, live-append rows images i h.1 e)

-- a change of a history that leaves no image of another set
pub all_live-map : (f : History → History) (rows : List SetRow) → ((x : History) → AreLive rows x.images → AreLive rows (f x).images) → (hs : List History) → AllLive rows hs → AllLive rows (map f hs)
all_live-map f rows keeps [] h = tt
all_live-map f rows keeps (x ∷ hs) h = (keeps x h.0, all_live-map f rows keeps hs h.1)

pub all_live-change_at : (f : History → History) (rows : List SetRow) → ((x : History) → AreLive rows x.images → AreLive rows (f x).images) → (v : ℕ) (hs : List History) → AllLive rows hs → AllLive rows (change_at v f hs)
all_live-change_at f rows keeps v [] h = tt
all_live-change_at f rows keeps zero (x ∷ hs) h = (keeps x h.0, h.1)
all_live-change_at f rows keeps (suc v) (x ∷ hs) h = (h.0, all_live-change_at f rows keeps v hs h.1)

-- ## a set that ends

pub number-settled_if : (b : Bool) (p : SetOutcome) (r : SetRow) → (if b then record r { result = p } else r).number ≡ r.number
number-settled_if b p r = grind arith

pub numbered-settled : (p : SetOutcome) (n : ℕ) (rows : List SetRow) → NumberedFrom n rows → NumberedFrom n (map (row_settled p) rows)
numbered-settled p n rows h = numbered-map (row_settled p) (λ r. number-settled_if (is_running r.result) p r) n rows h

pub newest-settled : (p : SetOutcome) (rows : List SetRow) → OverButNewest rows → OverButNewest (map (row_settled p) rows)
newest-settled p (r ∷ q ∷ rows) h = (grind (arith, h.0), newest-settled p (q ∷ rows) h.1)
newest-settled p _ h = tt

-- where the outcome is no longer Running, no set is in progress any more
pub find-settled_over : (p : SetOutcome) → is_running p ≡ false → (rows : List SetRow) → find (λ r. is_running r.result) (map (row_settled p) rows) ≡ None
find-settled_over p e [] = refl
find-settled_over p e (r ∷ rows) = let ih = find-settled_over p e rows in grind (arith, common_steps)

abbrev with_result : SetOutcome → SetRow → SetRow
with_result p r = record r { result = p }

-- where it still is, the set in progress is the same
pub find-settled_running : (rows : List SetRow) → find (λ r. is_running r.result) (map (row_settled Running) rows) ≡ option_map (with_result Running) (find (λ r. is_running r.result) rows)
find-settled_running [] = refl
find-settled_running (r ∷ rows) = grind (arith, find-settled_running rows)

or_both : (a b c d : Bool) → (a ≡ true → c ≡ true) → (b ≡ true → d ≡ true) → (a || b) ≡ true → (c || d) ≡ true
or_both a b c d f g h = grind arith

-- a set that has not failed stays live where the set in progress does not fail
pub live-settled : (p : SetOutcome) → has_failed p ≡ false → (rows : List SetRow) (n : ℕ) → is_live rows n ≡ true → is_live (map (row_settled p) rows) n ≡ true
live-settled p e [] n h = h
live-settled p e (r ∷ rows) n h =
    or_both (r.number == n && not (has_failed r.result)) (is_live rows n) _ _ (λ y. grind arith) (live-settled p e rows n) h

-- ## a set that fails

abbrev IsOther : ℕ → Option SetRow → Type 0
IsOther n None = Unit {0}
IsOther n (Some r) = (r.number == n) ≡ false

-- every set but the one in progress stays live
live_fails_at : (b : Bool) (p : SetOutcome) (r : SetRow) (rows : List SetRow) (n : ℕ) → is_running r.result ≡ b → OverButNewest (r ∷ rows)
    → IsOther n (if b then Some r else find (λ q. is_running q.result) rows)
    → (IsOther n (find (λ q. is_running q.result) rows) → is_live rows n ≡ true → is_live (map (row_settled p) rows) n ≡ true) → is_live (r ∷ rows) n ≡ true
    → (((if b then record r { result = p } else r).number == n && not (has_failed (if b then record r { result = p } else r).result)) || is_live (map (row_settled p) rows) n) ≡ true
live_fails_at b p r rows n e o other ih h = grind (arith, common_steps, or_both, true_not_false)

pub live-fails : (p : SetOutcome) (rows : List SetRow) (n : ℕ) → OverButNewest rows → IsOther n (find (λ r. is_running r.result) rows) → is_live rows n ≡ true → is_live (map (row_settled p) rows) n ≡ true
live-fails p [] n o other h = h
live-fails p (r ∷ rows) n o other h = live_fails_at (is_running r.result) p r rows n refl o other (λ f g. live-fails p rows n (grind arith) f g) h

-- its images go
pub other_way : (a b : ℕ) → (a == b) ≡ false → (b == a) ≡ false
other_way a b f = grind arith

are_live_without : (p : SetOutcome) (rows : List SetRow) (q : SetRow) → OverButNewest rows → find (λ r. is_running r.result) rows ≡ Some q → (images : List Image) → AreLive rows images → AreLive (map (row_settled p) rows) (without_set q.number images)
are_live_without p rows q o e [] h = tt
are_live_without p rows q o e (i ∷ images) h = let ih = are_live_without p rows q o e images h.1 in grind (arith, common_steps, live-fails, other_way)

all_live_without : (p : SetOutcome) (rows : List SetRow) (q : SetRow) → OverButNewest rows → find (λ r. is_running r.result) rows ≡ Some q → (hs : List History) → AllLive rows hs → AllLive (map (row_settled p) rows) (map (dropped q.number) hs)
all_live_without p rows q o e [] h = tt
all_live_without p rows q o e (x ∷ hs) h = (are_live_without p rows q o e x.images h.0, all_live_without p rows q o e hs h.1)

pub all_live-fails : (p : SetOutcome) (rows : List SetRow) (found : Option SetRow) → OverButNewest rows → find (λ r. is_running r.result) rows ≡ found → (hs : List History) → AllLive rows hs → AllLive (map (row_settled p) rows) (images_dropped found hs)
all_live-fails p rows (Some q) o e hs h = all_live_without p rows q o e hs h
all_live-fails p rows None o e hs h = grind (arith, common_steps, all_live_along, live-fails)

-- ## a set that starts

pub numbered-append : (n : ℕ) (rows : List SetRow) (r : SetRow) → NumberedFrom n rows → r.number ≡ length rows + n → NumberedFrom n (rows ++ r ∷ [])
numbered-append n [] r h e = (e ∙ omega arith, tt)
numbered-append n (q ∷ rows) r h e = (h.0, numbered-append (n + 1) rows r h.1 (e ∙ omega arith))

pub none_head : (b : Bool) (x : SetRow) (other : Option SetRow) → (if b then Some x else other) ≡ None → b ≡ false
none_head b x other e = grind arith

pub none_tail : (b : Bool) (x : SetRow) (other : Option SetRow) → (if b then Some x else other) ≡ None → other ≡ None
none_tail b x other e = grind arith

pub newest-append : (rows : List SetRow) (r : SetRow) → find (λ q. is_running q.result) rows ≡ None → OverButNewest (rows ++ r ∷ [])
newest-append (q ∷ x ∷ rows) r e = (none_head (is_running q.result) q _ e, newest-append (x ∷ rows) r (none_tail (is_running q.result) q _ e))
newest-append rows r e = grind (arith, common_steps, nat_tests, none_head, none_tail)

pub find-append_new : (rows : List SetRow) (r : SetRow) → find (λ q. is_running q.result) rows ≡ None → is_running r.result ≡ true → find (λ q. is_running q.result) (rows ++ r ∷ []) ≡ Some r
find-append_new [] r e f = rw f refl
find-append_new (q ∷ rows) r e f = grind (arith, find-append_new rows r (none_tail (is_running q.result) q _ e) f)

pub live_append : (rows : List SetRow) (r : SetRow) (n : ℕ) → is_live rows n ≡ true → is_live (rows ++ r ∷ []) n ≡ true
live_append rows r n h = grind (arith, common_steps, or_both)

pub all_live-append : (rows : List SetRow) (r : SetRow) (hs : List History) → AllLive rows hs → AllLive (rows ++ r ∷ []) hs
all_live-append rows r hs h = all_live_along rows (rows ++ r ∷ []) (λ n g. live_append rows r n g) hs h

pub live_found : (rows : List SetRow) (r : SetRow) → find (λ q. is_running q.result) rows ≡ Some r → is_live rows r.number ≡ true
live_found [] r e = absurd cc
live_found (q ∷ rows) r e = grind (arith, live_found rows r)
