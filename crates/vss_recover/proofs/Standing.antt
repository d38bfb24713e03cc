-- For which histories with recovery writes a volume stands after its calls; and the laws of all lists of steps, step by step.
use Rattle.std.proofs.Common.{◌≡◌, ℕ, zero, suc, List, [], ◌∷◌, ◌++◌, ap, sym, ◌∙◌, arith, Bool, true, false, Option, Some, All, ◌<◌, refl, subst, None}
use Rattle.std.proofs.lemmas.Bool.{or_left, or_right, lt-ltb}
use Rattle.std.proofs.lemmas.Grind.{common_steps}
use Rattle.std.proofs.lemmas.List.{map-append}
use Rattle.std.proofs.lemmas.List.Elements.{All-head, All-tail, All-filter, filter_passes, All-nil}
use Rattle.std.proofs.lemmas.List.Folds.{list_any-append}
use Rattle.std.specs.Prelude.{◌==◌, ◌||◌, filter, slice_get, if◌then◌else◌, length, ◌-◌}
use Rattle.write_history.specs.History.{History, Image, sets_of, after_set, Write, written, cut, dropped, reverted, reverted_in_part}
use Rattle.diff_area.specs.AreaValue.{AreaValue}
use Rattle.diff_area.specs.declared.table_record.Record.{Record}
use Rattle.cow_volume.specs.Calls.{is_among}
use Rattle.cow_volume.specs.StandsFor.{GroupValue, IsVolume}
use Rattle.cow_volume.specs.OneVolume.{StandsForOne, blocks_of, image_sets, without_up_to}
use Rattle.cow_volume.proofs.Group.{number_is, place_at, same_number}
use Rattle.vss_recover.specs.Calls.{IsSettled, IsSettledUpTo}
use Rattle.vss_recover.specs.OverlayCalls.{kept_records}
use Rattle.vss_recover.specs.RecoverValue.{RecoverValue, StandsFor, IsOverlay}
use Rattle.vss_recover.specs.Recoveries.{Recovery, Recovering, IsOfImages, kept_window, changed, opened, recovered_by, closed, kept, kept_final, recovered}
use Rattle.vss_recover.specs.Steps.{Step, AreAllowed, after, after_all, made_since_cut, last_window, IsMadeIn, of_volume}
use Rattle.vss_recover.specs.Steps.Step.{Wrote, Evicted, Cut, Dropped, Reverted, RevertedInPart, Opened, Recovered, Closed}
use Rattle.vss_recover.specs.declared.claim.Claim.{Claim}
use Rattle.vss_recover.proofs.Overlays.{keep_overlay, filter-all, recovered-push, recovered-kept, none_recovered}

-- ## What is said of images is said of those that stand: after a step too.

-- ## sets among others

or_rest : (t a b : Bool) → (t || a) ≡ true → (a ≡ true → b ≡ true) → (t || b) ≡ true
or_rest t a b e rest = grind arith

pub among_head : (s : ℕ) (sets : List ℕ) → is_among s (s ∷ sets) ≡ true
among_head s sets = or_left (s == s) (is_among s sets) (number_is s)

pub among_tail : (s x : ℕ) (sets : List ℕ) → is_among s sets ≡ true → is_among s (x ∷ sets) ≡ true
among_tail s x sets e = or_right (x == s) (is_among s sets) e

pub among_at : (sets : List ℕ) (k s : ℕ) → slice_get sets k ≡ Some s → is_among s sets ≡ true
among_at [] k s e = cc
among_at (x ∷ sets) zero s e = (let same : x ≡ s = cc in ap (λ y. is_among y (x ∷ sets)) (sym same) ∙ among_head x sets)
among_at (x ∷ sets) (suc k) s e = among_tail s x sets (among_at sets k s e)

pub among_push : (a s : ℕ) (sets : List ℕ) → is_among a (sets ++ s ∷ []) ≡ (is_among a sets || ((s == a) || false))
among_push a s sets = list_any-append (λ x. x == a) sets (s ∷ [])

pub among_more : (a s : ℕ) (sets : List ℕ) → is_among a sets ≡ true → is_among a (sets ++ s ∷ []) ≡ true
among_more a s sets e = among_push a s sets ∙ or_left (is_among a sets) ((s == a) || false) e

pub among_less : (a s : ℕ) (sets : List ℕ) → (s == a) ≡ false → is_among a (sets ++ s ∷ []) ≡ true → is_among a sets ≡ true
among_less a s sets other e = grind (arith, among_push)

pub among_filter : (p : Image → Bool) (images : List Image) (s : ℕ) → is_among s (sets_of (filter p images)) ≡ true → is_among s (sets_of images) ≡ true
among_filter p [] s e = e
among_filter p (i ∷ images) s e = grind (arith, common_steps, or_rest, among_tail, among_filter p images s)

all_in : (ys xs : List ℕ) → ((s : ℕ) → is_among s xs ≡ true → is_among s ys ≡ true) → All (λ s. is_among s ys ≡ true) xs
all_in ys xs f = grind (arith, common_steps, All-nil, among_head, among_tail)

all_map : {X : Type 0} (P Q : X → Type 0) (xs : List X) → ((x : X) → P x → Q x) → All P xs → All Q xs
all_map x0 x1 xs f all = grind arith

all_push : {X : Type 0} (P : X → Type 0) (xs : List X) (y : X) → All P xs → P y → All P (xs ++ y ∷ [])
all_push x0 xs y all h = grind (arith, common_steps, All-nil)

-- ## the window

pub window_kept : (sets : List ℕ) (o : Option ℕ) (set : ℕ) → kept_window sets o ≡ Some set → (o ≡ Some set) × (is_among set sets ≡ true)
window_kept sets o set e = grind arith

pub window_stays : (sets : List ℕ) (o : Option ℕ) → ((set : ℕ) → o ≡ Some set → is_among set sets ≡ true) → kept_window sets o ≡ o
window_stays sets o h = grind arith

-- ## after a step

pub of_changed : (v : History) (h : Recovering) → IsOfImages (sets_of v.images) (changed v h)
of_changed v h = grind (arith, filter_passes, window_kept)

-- a set more
pub of_more : (sets : List ℕ) (s : ℕ) (h k : Recovering) → k.recoveries ≡ h.recoveries → k.window ≡ h.window → k.final ≡ h.final → IsOfImages sets h → IsOfImages (sets ++ s ∷ []) k
of_more sets s h k a b c is = grind (arith, all_map, among_more)

pub of_opened : (sets : List ℕ) (set : ℕ) (claims : List _) (h : Recovering) → is_among set sets ≡ true → IsOfImages sets h → IsOfImages sets (opened set claims h)
of_opened sets set claims h among is = grind arith

pub of_recovered : (sets : List ℕ) (r : Recovery) (h : Recovering) → h.window ≡ Some r.set → IsOfImages sets h → IsOfImages sets (recovered_by r h)
of_recovered sets r h open_is is = grind (arith, common_steps, all_push)

pub of_closed : (set : ℕ) (h : Recovering) → IsOfImages (sets_of h.volume.images) h → IsOfImages (sets_of h.volume.images) (closed set h)
of_closed set h is = record {
  recoveries = is.recoveries;
  window = λ s e. cc;
  final = All-filter (λ s. (s == set) || is_among s h.final) (λ s. is_among s (sets_of h.volume.images) ≡ true) (sets_of h.volume.images)
      (all_in (sets_of h.volume.images) (sets_of h.volume.images) (λ s e. e));
}

-- ## For which histories with recovery writes a volume stands after its calls.

-- ## the volume beneath

-- it has one volume, whose images are those of its history
pub record IsOne {D : Type 0} (told : D → Option (List (List ℕ))) (g : GroupValue D) (h : History) : Type 0 where
  pub n : ℕ
  pub slots : Option (List (List ℕ))
  pub blocks : Option (List (List ℕ))
  pub blocks_is : blocks_of g ≡ n
  pub volume : IsVolume blocks slots g.area.records 0 n (image_sets g) h

pub one_of_it : {D : Type 0} (told : D → Option (List (List ℕ))) (g : GroupValue D) (h : History) → StandsForOne told g h → IsOne told g h
one_of_it told g h stands = grind (arith, common_steps, place_at told g (h ∷ []) 0 stands (omega arith))

pub sets_are : {D : Type 0} (told : D → Option (List (List ℕ))) (g : GroupValue D) (h : History) → StandsForOne told g h → image_sets g ≡ sets_of h.images
sets_are told g h stands = (one_of_it told g h stands).volume.sets_are

all_above : (images : List Image) → All (λ (i : Image). 0 < i.set) images → (s : ℕ) → is_among s (sets_of images) ≡ true → 0 < s
all_above [] all s e = cc
all_above (i ∷ images) all s e = by_test (i.set == s) refl e (λ g. all_above images (All-tail (λ (j : Image). 0 < j.set) i images all) s g) where
  by_test : (t : Bool) → (i.set == s) ≡ t → (t || is_among s (sets_of images)) ≡ true → (is_among s (sets_of images) ≡ true → 0 < s) → 0 < s
  by_test true f g rest = subst (λ (x : ℕ). 0 < x) (same_number i.set s f) (All-head (λ (j : Image). 0 < j.set) i images all)
  by_test false f g rest = rest g

-- no set of an image is 0
pub above_zero : {D : Type 0} (told : D → Option (List (List ℕ))) (g : GroupValue D) (h : History) (s : ℕ) → StandsForOne told g h → is_among s (image_sets g) ≡ true → 0 < s
above_zero told g h s stands among = all_above h.images (one_of_it told g h stands).volume.images.above_zero s (ap (is_among s) (sym (sets_are told g h stands)) ∙ among)

after_none : (images : List Image) → All (λ (i : Image). 0 < i.set) images → after_set 0 images ≡ images
after_none [] all = refl
after_none (i ∷ images) all =
    ap (λ (t : Bool). if t then i ∷ after_set 0 images else after_set 0 images) (lt-ltb 0 i.set (All-head (λ (j : Image). 0 < j.set) i images all))
    ∙ ap (λ (is : List Image). i ∷ is) (after_none images (All-tail (λ (j : Image). 0 < j.set) i images all))

-- no image goes up to set 0
pub none_gone : {D : Type 0} (told : D → Option (List (List ℕ))) (g : GroupValue D) (h : History) → StandsForOne told g h → sets_of (without_up_to 0 h).images ≡ sets_of h.images
none_gone told g h stands = ap sets_of (after_none h.images (one_of_it told g h stands).volume.images.above_zero)

-- ## all is as it was, but the volume

same_overlay : (slots : Option (List (List ℕ))) (records : List Record) (n m : ℕ) (rs : List Recovery) → n ≡ m → IsOverlay slots records m rs → IsOverlay slots records n rs
same_overlay slots records n m rs e is = subst (λ (k : ℕ). IsOverlay slots records k rs) (sym e) is

-- where all is of the images that stand now, nothing goes
pub changed_alone : (v : History) (h : Recovering) → IsOfImages (sets_of v.images) h
    → changed v h ≡ record { volume = v; recoveries = h.recoveries; window = h.window; claims = h.claims; final = h.final }
changed_alone v h of = grind (arith, filter-all, window_stays)

-- the volume's history became another with images of sets of which all is said, and the overlay has what it had
pub beside_stands : {D : Type 0} (told : D → Option (List (List ℕ))) (old new : RecoverValue D) (v : History) (h : Recovering) → StandsFor told old h → StandsForOne told new.volume v
    → blocks_of new.volume ≡ blocks_of old.volume
    → IsOfImages (sets_of v.images) h → new.overlay.records ≡ old.overlay.records → told new.overlay.device ≡ told old.overlay.device → new.window ≡ old.window → new.claims ≡ old.claims
    → new.final ≡ old.final
    → StandsFor told new (record { volume = v; recoveries = h.recoveries; window = h.window; claims = h.claims; final = h.final })
beside_stands told old new v h stood stands blocks of records slots window claims final =
    let fact = same_overlay (told old.overlay.device) old.overlay.records (blocks_of new.volume) (blocks_of old.volume) h.recoveries blocks stood.overlay in
    grind (arith, common_steps, sets_are told new.volume v stands)

-- nothing changed but counts of devices
pub quiet_stands : {D : Type 0} (told : D → Option (List (List ℕ))) (old new : RecoverValue D) (h : Recovering) → StandsFor told old h → StandsForOne told new.volume h.volume
    → blocks_of new.volume ≡ blocks_of old.volume
    → new.overlay.records ≡ old.overlay.records → told new.overlay.device ≡ told old.overlay.device → new.window ≡ old.window → new.claims ≡ old.claims → new.final ≡ old.final → StandsFor told new h
quiet_stands told old new h stood stands blocks records slots window claims final =
    grind (arith, common_steps, beside_stands told old new h.volume h stood stands blocks, sets_are told old.volume h.volume stood.volume)

-- ## images that go

pub settled_stands : {D : Type 0} (told : D → Option (List (List ℕ))) (old new : RecoverValue D) (v : History) (h : Recovering) → StandsFor told old h → StandsForOne told new.volume v
    → blocks_of new.volume ≡ blocks_of old.volume
    → IsSettled old new → StandsFor told new (changed v h)
settled_stands told old new v h stood stands blocks settled =
    let sets = sets_are told new.volume v stands in
    record {
      volume = stands;
      overlay = subst (λ (rows : List Record). IsOverlay (told new.overlay.device) rows (blocks_of new.volume) (kept (sets_of v.images) h.recoveries))
          (sym (settled.records ∙ ap (λ (s : List ℕ). kept_records s old.overlay.records) sets))
          (subst (λ d. IsOverlay (told d) (kept_records (sets_of v.images) old.overlay.records) (blocks_of new.volume) (kept (sets_of v.images) h.recoveries)) (sym settled.device)
          (same_overlay (told old.overlay.device) (kept_records (sets_of v.images) old.overlay.records) (blocks_of new.volume) (blocks_of old.volume) (kept (sets_of v.images) h.recoveries) blocks
          (keep_overlay (told old.overlay.device) old.overlay.records (blocks_of old.volume) (sets_of v.images) h.recoveries stood.overlay)));
      of_images = subst (λ (s : List ℕ). IsOfImages s (changed v h)) (sym sets) (of_changed v h);
      window = settled.window ∙ ap (λ (s : List ℕ). kept_window s old.window) sets ∙ ap (kept_window (sets_of v.images)) stood.window;
      claims = settled.claims ∙ stood.claims;
      final = settled.final ∙ ap (λ (s : List ℕ). kept_final s old.final) sets ∙ ap (kept_final (sets_of v.images)) stood.final;
    }

-- after a write for which the images up to a set went
pub settled_up_to_stands : {D : Type 0} (told : D → Option (List (List ℕ))) (old new : RecoverValue D) (up_to : ℕ) (f : History → History) (h : Recovering) → StandsFor told old h
    → StandsForOne told new.volume (f (without_up_to up_to h.volume))
    → ((x : History) → (f x).images ≡ x.images) → blocks_of new.volume ≡ blocks_of old.volume → IsSettledUpTo up_to old new → StandsFor told new (changed (f (without_up_to up_to h.volume)) h)
settled_up_to_stands told old new zero f h stood stands same blocks beside =
    let v = f (without_up_to 0 h.volume) in
    let sets : image_sets old.volume ≡ sets_of v.images = sets_are told old.volume h.volume stood.volume ∙ sym (none_gone told old.volume h.volume stood.volume)
    ∙ sym (ap sets_of (same (without_up_to 0 h.volume))) in
    let of : IsOfImages (sets_of v.images) h = subst (λ (s : List ℕ). IsOfImages s h) sets stood.of_images in
    subst (λ (k : Recovering). StandsFor told new k) (sym (changed_alone v h of))
    (beside_stands told old new v h stood stands blocks of (ap (λ (a : AreaValue _). a.records) beside.overlay)
    (ap (λ (a : AreaValue _). told a.device) beside.overlay) beside.window beside.claims beside.final)
settled_up_to_stands told old new (suc up_to) f h stood stands same blocks settled = settled_stands told old new (f (without_up_to (suc up_to) h.volume)) h stood stands blocks settled

-- ## The laws of all lists of steps, step by step.

-- ## the volume

pub same_volume : (n : ℕ) (h k : Recovering) (steps : List Step) → h.volume ≡ k.volume → (after_all n h steps).volume ≡ (after_all n k (of_volume steps)).volume
same_volume n h k [] e = e
same_volume n h k (Wrote w up_to ∷ steps) e = same_volume n (after n h (Wrote w up_to)) (after n k (Wrote w up_to)) steps (ap (λ v. written w (without_up_to up_to v)) e)
same_volume n h k (Evicted up_to ∷ steps) e = same_volume n (after n h (Evicted up_to)) (after n k (Evicted up_to)) steps (ap (without_up_to up_to) e)
same_volume n h k (Cut set ∷ steps) e = same_volume n (after n h (Cut set)) (after n k (Cut set)) steps (ap (cut set) e)
same_volume n h k (Dropped set ∷ steps) e = same_volume n (after n h (Dropped set)) (after n k (Dropped set)) steps (ap (dropped set) e)
same_volume n h k (Reverted set p ∷ steps) e = same_volume n (after n h (Reverted set p)) (after n k (Reverted set p)) steps (ap (reverted set p) e)
same_volume n h k (RevertedInPart set p m ∷ steps) e = same_volume n (after n h (RevertedInPart set p m)) (after n k (RevertedInPart set p m)) steps (ap (reverted_in_part n set p m) e)
same_volume n h k (Opened set claims ∷ steps) e = same_volume n (after n h (Opened set claims)) k steps e
same_volume n h k (Recovered r ∷ steps) e = same_volume n (after n h (Recovered r)) k steps e
same_volume n h k (Closed set ∷ steps) e = same_volume n (after n h (Closed set)) k steps e

-- ## the window

-- where a window is open, it is the last
abbrev Fits : Recovering → Option (ℕ × List Claim) → Type 0
Fits h w = (set : ℕ) → h.window ≡ Some set → w ≡ Some (set, h.claims)

kept_fits : (v : History) (h : Recovering) (w : Option (ℕ × List Claim)) → Fits h w → Fits (changed v h) w
kept_fits v h w fits = λ set e. fits set (window_kept (sets_of v.images) h.window set e).0

pub made_in : (n : ℕ) (h : Recovering) (w : Option (ℕ × List Claim)) (before later : List Step) (r : Recovery) → Fits h w → AreAllowed n h (before ++ Recovered r ∷ later)
    → IsMadeIn (last_window w before) r
made_in n h w [] later r fits all = subst (λ (o : Option (ℕ × List Claim)). IsMadeIn o r) (sym (fits r.set all.0.0)) (refl, all.0.2)
made_in n h w (Wrote x up_to ∷ before) later r fits all = made_in n (after n h (Wrote x up_to)) w before later r (kept_fits (written x (without_up_to up_to h.volume)) h w fits) all.1
made_in n h w (Evicted up_to ∷ before) later r fits all = made_in n (after n h (Evicted up_to)) w before later r (kept_fits (without_up_to up_to h.volume) h w fits) all.1
made_in n h w (Cut set ∷ before) later r fits all = made_in n (after n h (Cut set)) w before later r fits all.1
made_in n h w (Dropped set ∷ before) later r fits all = made_in n (after n h (Dropped set)) w before later r (kept_fits (dropped set h.volume) h w fits) all.1
made_in n h w (Reverted set p ∷ before) later r fits all = made_in n (after n h (Reverted set p)) w before later r (kept_fits (reverted set p h.volume) h w fits) all.1
made_in n h w (RevertedInPart set p m ∷ before) later r fits all = made_in n (after n h (RevertedInPart set p m)) w before later r (kept_fits (reverted_in_part n set p m h.volume) h w fits) all.1
made_in n h w (Opened set claims ∷ before) later r fits all = made_in n (after n h (Opened set claims)) (Some (set, claims)) before later r
    (λ s e. (let same : set ≡ s = cc in ap (λ x. Some (x, claims)) same)) all.1
made_in n h w (Recovered q ∷ before) later r fits all = made_in n (after n h (Recovered q)) w before later r fits all.1
made_in n h w (Closed set ∷ before) later r fits all = made_in n (after n h (Closed set)) None before later r (λ s e. cc) all.1

-- ## what an image shows

-- the recovery writes of a standing image of the set are these
abbrev Shows : ℕ → Recovering → List Write → Type 0
Shows set h made = is_among set (sets_of h.volume.images) ≡ true → recovered set h.recoveries ≡ made

kept_shows : (set : ℕ) (v : History) (h : Recovering) (made : List Write) → ((s : ℕ) → is_among s (sets_of v.images) ≡ true → is_among s (sets_of h.volume.images) ≡ true) → Shows set h made
    → Shows set (changed v h) made
kept_shows set v h made fewer shows = λ e. recovered-kept (sets_of v.images) set h.recoveries e ∙ shows (fewer set e)

cut_sets : (images : List Image) (s p : ℕ) → sets_of (images ++ record { set = s; point = p } ∷ []) ≡ sets_of images ++ s ∷ []
cut_sets images s p = map-append (λ (i : Image). i.set) images (record { set = s; point = p } ∷ [])

cut_shows : (set s : ℕ) (h : Recovering) (made : List Write) → IsOfImages (sets_of h.volume.images) h → is_among s (sets_of h.volume.images) ≡ false → Shows set h made
    → is_among set (sets_of h.volume.images ++ s ∷ []) ≡ true
    → recovered set h.recoveries ≡ (if s == set then [] else made)
cut_shows set s h made of new shows among = grind (arith, none_recovered, same_number, among_less)

push_shows : (set : ℕ) (r : Recovery) (rs : List Recovery) (made : List Write) → recovered set rs ≡ made → recovered set (rs ++ r ∷ []) ≡ (if r.set == set then made ++ r.write ∷ [] else made)
push_shows set r rs made e = recovered-push set rs r ∙ ap (λ (ws : List Write). if r.set == set then ws ++ r.write ∷ [] else ws) e

pub shows_made : (n set : ℕ) (h : Recovering) (made : List Write) (steps : List Step) → IsOfImages (sets_of h.volume.images) h → AreAllowed n h steps → Shows set h made
    → Shows set (after_all n h steps) (made_since_cut set made steps)
shows_made n set h made [] of all shows = shows
shows_made n set h made (Wrote w up_to ∷ steps) of all shows = (let v = written w (without_up_to up_to h.volume) in
    shows_made n set (changed v h) made steps (of_changed v h) all.1 (kept_shows set v h made (λ s e. among_filter _ h.volume.images s e) shows))
shows_made n set h made (Evicted up_to ∷ steps) of all shows = (let v = without_up_to up_to h.volume in
    shows_made n set (changed v h) made steps (of_changed v h) all.1 (kept_shows set v h made (λ s e. among_filter _ h.volume.images s e) shows))
shows_made n set h made (Cut s ∷ steps) of all shows = (let same = cut_sets h.volume.images s (length h.volume.writes) in
    shows_made n set (after n h (Cut s)) (if s == set then [] else made) steps
    (subst (λ (sets : List ℕ). IsOfImages sets (after n h (Cut s))) (sym same) (of_more (sets_of h.volume.images) s h (after n h (Cut s)) refl refl refl of)) all.1
    (λ e. cut_shows set s h made of all.0.0 shows (ap (is_among set) (sym same) ∙ e)))
shows_made n set h made (Dropped s ∷ steps) of all shows = (let v = dropped s h.volume in
    shows_made n set (changed v h) made steps (of_changed v h) all.1 (kept_shows set v h made (λ x e. among_filter _ h.volume.images x e) shows))
shows_made n set h made (Reverted s p ∷ steps) of all shows = (let v = reverted s p h.volume in
    shows_made n set (changed v h) made steps (of_changed v h) all.1 (kept_shows set v h made (λ x e. among_filter _ h.volume.images x e) shows))
shows_made n set h made (RevertedInPart s p m ∷ steps) of all shows = (let v = reverted_in_part n s p m h.volume in
    shows_made n set (changed v h) made steps (of_changed v h) all.1 (kept_shows set v h made (λ x e. among_filter _ h.volume.images x e) shows))
shows_made n set h made (Opened s claims ∷ steps) of all shows =
    shows_made n set (opened s claims h) made steps
    (of_opened (sets_of h.volume.images) s claims h (among_at (sets_of h.volume.images) (length (sets_of h.volume.images) - 1) s all.0.0) of) all.1 shows
shows_made n set h made (Recovered r ∷ steps) of all shows =
    shows_made n set (recovered_by r h) (if r.set == set then made ++ r.write ∷ [] else made) steps (of_recovered (sets_of h.volume.images) r h all.0.0 of) all.1
    (λ e. push_shows set r h.recoveries made (shows e))
shows_made n set h made (Closed s ∷ steps) of all shows = shows_made n set (closed s h) made steps (of_closed s h of) all.1 shows
