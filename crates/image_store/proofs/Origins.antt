-- What holds of every list of steps: where an image comes from; and a file that is read back of whole blocks.
use Rattle.std.proofs.Common.{◌≡◌, ℕ, zero, suc, ◌+◌, ◌-◌, ◌*◌, ◌<◌, ◌≤◌, List, [], ◌++◌, length, map, take, drop, ap, sym, ◌∙◌, arith, append_assoc, ◌≢◌, ◌∷◌}
use Rattle.std.proofs.Common.{refl, subst, Bool, true, false, ◌||◌, Option, Some, None, inl, inr}
use Rattle.std.proofs.Math.Seq.{take-add, take-append_seam}
use Rattle.std.proofs.lemmas.Bool.Decides.{nat_tests}
use Rattle.std.proofs.lemmas.List.{append-nil, drop-drop, drop_at, length-append, length-drop, take_all}
use Rattle.std.proofs.lemmas.List.FromFn.{length-map-range_with_len}
use Rattle.std.proofs.lemmas.Option.{same_Some}
use Rattle.std.specs.List.{concat, range_with_len}
use Rattle.std.specs.Prelude.{slice_get, ◌==◌, ◌&&◌, ◌⊎◌, not, filter, nat_lt, if◌then◌else◌, Result, Ok, Err, OnOk, IfOk}
use Rattle.byteorder.specs.Endian.{little_bytes, little_number}
use Rattle.byteorder.specs.Numbers.{little_number-reads_back}
use Rattle.block_data.specs.BlockBytes.{run_of}
use Rattle.block_data.specs.declared.block_buf.TheConstants.{BLOCK}
use Rattle.block_data.proofs.RunsOfBytes.{length-run_of}
use Rattle.volume_device.specs.declared.device.Device.{Ghosts}
use Rattle.diff_area.proofs.ByPlace.{get-map_range}
use Rattle.cow_volume.specs.Calls.{is_among}
use Rattle.cow_volume.proofs.Group.{same_number, other_number, number_is_other}
use Rattle.image_store.specs.Course.{AreTaken, CallsFollowOneAnother, ShownIsOfItsCut, ImagesComeOfCuts, IsCutIn, IsShowStep, SetsAreCutOnce, FilesComeBack}
use Rattle.image_store.specs.FileBytes.{FitsIn, length_bytes, padded, block_in, blocks_of_file, number_in, length_in, file_in}
use Rattle.image_store.specs.Head.{HeadValue, IsKeptAs}
use Rattle.image_store.specs.Plain.{Kept, Plain, PlainStore, plain_at, volume_in, image_in, image_of, on_volume, on_each, cut_on, gone_on, with_blocks}
use Rattle.image_store.specs.Plain.{dropped_on, older_on, reverted_on}
use Rattle.image_store.specs.Showing.{IsShow, shown_in}
use Rattle.image_store.specs.Steps.{Step, IsAllowed, AreAllowed, after, after_all, goes, stays}
use Rattle.image_store.specs.Steps.Step.{Cut, Gone, Updated, UpdatedInPart, Dropped, Reverted, RevertedInPart, Shown, Read, Opened}
use Rattle.image_store.specs.StoreValue.{StoreValue, StandsAs, StandsStill}
use Rattle.image_store.specs.declared.show_fault.ShowFault.{ShowFault}
use Rattle.image_store.specs.declared.which.Which.{Which}
use Rattle.image_store.specs.declared.which.Which.TheVariants.{Now, Of}
use Rattle.image_store.proofs.Lasting.{after-append, Has, allowed-append, as_many, as_many_after, cut-each, other-on}

-- ## A file that is kept in whole blocks is read back of them.

-- pieces of k bytes, one after another
pieces : (k a n : ℕ) (xs : List ℕ) → concat (map (λ b. take k (drop (k * b) xs)) (range_with_len a n)) ≡ take (k * n) (drop (k * a) xs)
pieces k a zero xs = let none : k * 0 ≡ 0 = omega arith in ap (λ m. take m (drop (k * a) xs)) (sym none)
pieces k a (suc n) xs =
    let more : k * suc n ≡ k + k * n = grind arith in
    ap (λ ys. take k (drop (k * a) xs) ++ ys)
    (pieces k (a + 1) n xs ∙ ap (λ m. take (k * n) (drop m xs)) (grind arith) ∙ ap (take (k * n)) (sym (drop-drop k (k * a) xs)))
    ∙ sym (ap (λ m. take m (drop (k * a) xs)) more ∙ take-add k (k * n) (drop (k * a) xs))

-- the last eight bytes of the last piece are those of all
last_eight : (k n : ℕ) (xs : List ℕ) → 8 ≤ k → 0 < n → length xs ≡ k * n → drop (k - 8) (take k (drop (k * (n - 1)) xs)) ≡ drop (k * n - 8) xs
last_eight k n xs enough some many = grind (arith, length-drop, take_all, drop-drop)

-- all but the length
abbrev front : ℕ → List ℕ → List ℕ
front n file = file ++ run_of (BLOCK * n - 8 - length file) 0

length_front : (n : ℕ) (file : List ℕ) → length file + 8 ≤ BLOCK * n → length (front n file) ≡ BLOCK * n - 8
length_front n file room = grind (arith, length-append, length-run_of)

length_padded : (n : ℕ) (file : List ℕ) → length file + 8 ≤ BLOCK * n → length (padded n file) ≡ BLOCK * n
unfolding padded length_bytes
length_padded n file room = grind (arith, length-append, length_front)

length_back : (n len : ℕ) → len + 8 ≤ BLOCK * n → n ≤ 65536 → little_number 8 (length_bytes len) ≡ len
unfolding length_bytes
length_back n len room few = ap (little_number 8) (sym (append-nil (little_bytes 8 len))) ∙ little_number-reads_back 8 len [] (omega arith)

length_of_file : (n : ℕ) (file : List ℕ) → FitsIn n file → length_in (blocks_of_file n file) ≡ length file
unfolding length_in padded
length_of_file n file fits =
    let room = fits.0 in
    let bytes = padded n file in
    let some : 0 < n = omega arith in
    let many = length-map-range_with_len (block_in bytes) 0 n in
    ap (λ k. number_in (slice_get (blocks_of_file n file) (k - 1))) many
    ∙ ap number_in (get-map_range (block_in bytes) 0 n (n - 1) (n - 1) (omega arith) (omega arith))
    ∙ ap (little_number 8) (last_eight BLOCK n bytes (omega arith) some (length_padded n file room) ∙ drop_at (front n file) (length_bytes (length file)) (BLOCK * n - 8) (length_front n file room))
    ∙ length_back n (length file) room fits.1

pub file_back : (n : ℕ) (file : List ℕ) → FitsIn n file → file_in (blocks_of_file n file) ≡ file
unfolding file_in padded
file_back n file fits =
    let bytes = padded n file in
    let many = length_padded n file fits.0 in
    let none : BLOCK * 0 ≡ 0 = omega arith in
    let all : concat (blocks_of_file n file) ≡ bytes = pieces BLOCK 0 n bytes ∙ ap (λ m. take (BLOCK * n) (drop m bytes)) none ∙ take_all (BLOCK * n) bytes (omega arith) in
    ap (λ m. take m (concat (blocks_of_file n file))) (length_of_file n file fits)
    ∙ ap (take (length file)) (all ∙ append_assoc file (run_of (BLOCK * n - 8 - length file) 0) (length_bytes (length file)))
    ∙ take-append_seam file (run_of (BLOCK * n - 8 - length file) 0 ++ length_bytes (length file))

-- ## What holds of every list of steps: where an image comes from.

-- ## what was there before one volume changed

back-on : (u v set : ℕ) (f : Plain → Plain) (t : Bool) (ps : List Plain) (blocks : List (List ℕ))
    → ((p : Plain) → image_in set (f p).images ≡ Some blocks → (image_in set p.images ≡ Some blocks) × (t ≡ true)) → Has (on_volume u f ps) set v blocks → Has ps set v blocks × (u ≡ v → t ≡ true)
back-on u v set f t [] blocks h has = cc
back-on zero zero set f t (p ∷ ps) blocks h has = let r = h p has in (r.0, λ e. r.1)
back-on zero (suc v) set f t (p ∷ ps) blocks h has = (has, λ e. absurd (omega arith))
back-on (suc u) zero set f t (p ∷ ps) blocks h has = (has, λ e. absurd (omega arith))
back-on (suc u) (suc v) set f t (p ∷ ps) blocks h has = let r = back-on u v set f t ps blocks h has in (r.0, λ e. r.1 (omega arith))

back-all : (v set : ℕ) (f : Plain → Plain) (t : Bool) (ps : List Plain) (blocks : List (List ℕ))
    → ((p : Plain) → image_in set (f p).images ≡ Some blocks → (image_in set p.images ≡ Some blocks) × (t ≡ true)) → Has (map f ps) set v blocks → Has ps set v blocks × (t ≡ true)
back-all v set f t [] blocks h has = cc
back-all zero set f t (p ∷ ps) blocks h has = h p has
back-all (suc v) set f t (p ∷ ps) blocks h has = back-all v set f t ps blocks h has

back-filter : (f : ℕ → Bool) (set : ℕ) (ks : List Kept) (blocks : List (List ℕ)) → image_in set (filter (λ k. f k.set) ks) ≡ Some blocks → (image_in set ks ≡ Some blocks) × (f set ≡ true)
back-filter f set [] blocks has = cc
back-filter f set (k ∷ ks) blocks has = grind (arith, same_number, back-filter f set ks blocks)

-- ## what was there before a cut

back-push : (set other : ℕ) (ks : List Kept) (had blocks : List (List ℕ)) → other ≢ set → image_in set (ks ++ record { set = other; blocks = had } ∷ []) ≡ Some blocks → image_in set ks ≡ Some blocks
back-push set other [] had blocks apart e = let no = number_is_other other set apart in let is = sym (ap (λ t. if t then Some had else None) no) ∙ e in cc
back-push set other (k ∷ ks) had blocks apart e = grind (arith, back-push set other ks had blocks apart)

back-each : (vs : List ℕ) (v set other : ℕ) (ps : List Plain) (blocks : List (List ℕ)) → other ≢ set → Has (on_each vs (cut_on other) ps) set v blocks → Has ps set v blocks
back-each [] v set other ps blocks apart has = has
back-each (u ∷ vs) v set other ps blocks apart has =
    (back-on u v set (cut_on other) true ps blocks (λ p e. (back-push set other p.images p.blocks blocks apart e, refl)) (back-each vs v set other (on_volume u (cut_on other) ps) blocks apart has)).0

-- a volume that is not among those that are cut is as it was
other-each : (vs : List ℕ) (v : ℕ) (f : Plain → Plain) (ps : List Plain) → is_among v vs ≡ false → volume_in (on_each vs f ps) v ≡ volume_in ps v
other-each [] v f ps none = refl
other-each (u ∷ vs) v f ps none = by_test (u == v) refl none (other-each vs v f (on_volume u f ps)) where
  by_test : (t : Bool) → (u == v) ≡ t → (t || is_among v vs) ≡ false → (is_among v vs ≡ false → volume_in (on_each vs f (on_volume u f ps)) v ≡ volume_in (on_volume u f ps) v)
      → volume_in (on_each vs f (on_volume u f ps)) v ≡ volume_in ps v
  by_test true is e rest = cc
  by_test false is e rest = rest e ∙ other-on u v f ps (other_number u v is)

within : (ps : List Plain) (v set : ℕ) (blocks : List (List ℕ)) → Has ps set v blocks → v < length ps
within [] v set blocks has = cc
within (p ∷ ps) zero set blocks has = omega arith
within (p ∷ ps) (suc v) set blocks has = let l = within ps v set blocks has in omega arith

-- ## a step

-- the step is the cut of the set over the volume, which had these blocks
abbrev IsCutHere : PlainStore → Step → ℕ → ℕ → List (List ℕ) → Type 0
IsCutHere s x set v blocks = (vs : List ℕ) × (x ≡ Cut set vs) × (is_among v vs ≡ true) × (blocks ≡ (plain_at s v).blocks)

-- it was there, and did not go
abbrev IsStill : PlainStore → Step → ℕ → ℕ → List (List ℕ) → Type 0
IsStill s x set v blocks = (image_of s set v ≡ Some blocks) × (goes set v x ≡ false)

cut-here : (s : PlainStore) (set v : ℕ) (vs : List ℕ) (blocks : List (List ℕ)) → image_of s set v ≡ None → image_of (after s (Cut set vs)) set v ≡ Some blocks → (t : Bool) → is_among v vs ≡ t
    → IsCutHere s (Cut set vs) set v blocks
cut-here s set v vs blocks none has true among =
    let many = as_many s (Cut set vs) in
    let inside = within (after s (Cut set vs)).volumes v set blocks has in
    let here : Some blocks ≡ Some (plain_at s v).blocks = sym has ∙ cut-each vs v set s.volumes (omega arith) none among in
    (vs, refl, among, cc)
cut-here s set v vs blocks none has false among =
    let was : image_of s set v ≡ Some blocks = sym (ap (λ (p : Plain). image_in set p.images) (other-each vs v (cut_on set) s.volumes among)) ∙ has in
    cc

back-cut : (s : PlainStore) (other set v : ℕ) (vs : List ℕ) (blocks : List (List ℕ)) → ((u : ℕ) → image_of s other u ≡ None) → image_of (after s (Cut other vs)) set v ≡ Some blocks → (t : Bool)
    → (other == set) ≡ t
    → IsStill s (Cut other vs) set v blocks ⊎ IsCutHere s (Cut other vs) set v blocks
back-cut s other set v vs blocks none has true is = inr
    (subst (λ (n : ℕ). ((u : ℕ) → image_of s n u ≡ None) → image_of (after s (Cut n vs)) set v ≡ Some blocks → IsCutHere s (Cut n vs) set v blocks) (sym (same_number other set is))
    (λ free had. cut-here s set v vs blocks (free v) had (is_among v vs) refl) none has)
back-cut s other set v vs blocks none has false is = inl (back-each vs v set other s.volumes blocks (other_number other set is) has, refl)

goes_not : (t : Bool) (u v : ℕ) → (u ≡ v → not t ≡ true) → (t && (u == v)) ≡ false
goes_not t u v h = grind (arith, same_number)

-- the images of a volume that is changed in this way are of those that it had
still : (s : PlainStore) (x : Step) (u set v : ℕ) (f : Plain → Plain) (test : ℕ → Bool) (gone : Bool) (blocks : List (List ℕ)) → ((p : Plain) → (f p).images ≡ filter (λ k. test k.set) p.images)
    → test set ≡ not gone
    → goes set v x ≡ (gone && (u == v)) → Has (on_volume u f s.volumes) set v blocks → IsStill s x set v blocks
still s x u set v f test gone blocks are is goes_is has =
    let r = back-on u v set f (test set) s.volumes blocks (λ p e. back-filter test set p.images blocks (sym (ap (image_in set) (are p)) ∙ e)) has in
    (r.0, goes_is ∙ goes_not gone u v (λ e. sym is ∙ r.1 e))

pub back-step : (s : PlainStore) (x : Step) (set v : ℕ) (blocks : List (List ℕ)) → IsAllowed s x → image_of (after s x) set v ≡ Some blocks → IsStill s x set v blocks ⊎ IsCutHere s x set v blocks
back-step s (Cut other vs) set v blocks allowed has = back-cut s other set v vs blocks allowed.1 has (other == set) refl
back-step s (Gone up_to) set v blocks allowed has =
    let r = back-all v set (gone_on up_to) (nat_lt up_to set) s.volumes blocks (λ p e. back-filter (λ n. nat_lt up_to n) set p.images blocks e) has in
    inl (r.0, (grind (arith, nat_tests, r.1)))
back-step s (Updated u wanted) set v blocks allowed has = inl ((back-on u v set (with_blocks wanted) true s.volumes blocks (λ p e. (e, refl)) has).0, refl)
back-step s (UpdatedInPart u wanted now) set v blocks allowed has = inl ((back-on u v set (with_blocks now) true s.volumes blocks (λ p e. (e, refl)) has).0, refl)
back-step s (Dropped other u) set v blocks allowed has =
    inl (still s (Dropped other u) u set v (dropped_on other) (λ n. not (n == other)) (other == set) blocks (λ p. refl) (grind (arith, nat_tests)) refl has)
back-step s (Reverted other u) set v blocks allowed has = inl (still s (Reverted other u) u set v (reverted_on other) (λ n. not (nat_lt other n)) (nat_lt other set) blocks (λ p. refl) refl refl has)
back-step s (RevertedInPart other u now) set v blocks allowed has =
    inl (still s (RevertedInPart other u now) u set v (λ p. with_blocks now (older_on other p)) (λ n. not (nat_lt other n)) (nat_lt other set) blocks (λ p. refl) refl refl has)
back-step s (Shown other u bytes) set v blocks allowed has = inl (has, refl)
back-step s (Read u bytes) set v blocks allowed has = inl (has, refl)
back-step s Opened set v blocks allowed has = inl (has, refl)

-- ## all steps

allowed-front : (s : PlainStore) (xs ys : List Step) → AreAllowed s (xs ++ ys) → AreAllowed s xs
allowed-front s [] ys all = tt
allowed-front s (x ∷ xs) ys all = (all.0, allowed-front (after s x) xs ys all.1)

stays_more : (a b : Bool) → a ≡ false → b ≡ true → (not a && b) ≡ true
stays_more a b e f = grind (arith, nat_tests)

pub images_come : ImagesComeOfCuts
images_come s [] set v blocks all has = inl (has, refl)
images_come s (x ∷ xs) set v blocks all has = of_rest (images_come (after s x) xs set v blocks all.1 has) where
  of_first : stays set v xs ≡ true → IsStill s x set v blocks ⊎ IsCutHere s x set v blocks → ((image_of s set v ≡ Some blocks) × (stays set v (x ∷ xs) ≡ true)) ⊎ IsCutIn s (x ∷ xs) set v blocks
  of_first stay (inl h) = inl (h.0, stays_more (goes set v x) (stays set v xs) h.1 stay)
  of_first stay (inr (vs, is, among, had)) = inr (record { earlier = []; later = xs; vs = vs; steps_are = ap (λ y. y ∷ xs) is; over = among; had = had; stayed = stay })

  of_rest : ((image_of (after s x) set v ≡ Some blocks) × (stays set v xs ≡ true)) ⊎ IsCutIn (after s x) xs set v blocks
      → ((image_of s set v ≡ Some blocks) × (stays set v (x ∷ xs) ≡ true)) ⊎ IsCutIn s (x ∷ xs) set v blocks
  of_rest (inl h) = of_first h.1 (back-step s x set v blocks all.0 h.0)
  of_rest (inr c) = inr (record { earlier = x ∷ c.earlier; later = c.later; vs = c.vs; steps_are = ap (λ ys. x ∷ ys) c.steps_are; over = c.over; had = c.had; stayed = c.stayed })

pub shown_of_cut : ShownIsOfItsCut
shown_of_cut s steps later set v shown none all = grind (arith, allowed-append, images_come, allowed-front)

-- ## no set is cut twice

rises : (s : PlainStore) (x : Step) → IsAllowed s x → s.last ≤ (after s x).last
rises s x allowed = grind arith

not_again : (s : PlainStore) (xs ys : List Step) (set : ℕ) (vs : List ℕ) → set ≤ s.last → AreAllowed s (xs ++ Cut set vs ∷ ys) → ⊥
not_again s [] ys set vs given all = let l = all.0.0 in absurd (omega arith)
not_again s (x ∷ xs) ys set vs given all = let more = rises s x all.0 in not_again (after s x) xs ys set vs (omega arith) all.1

pub cut_once : SetsAreCutOnce
cut_once s earlier between later set vs ws all =
    let rest = allowed-append s earlier ((Cut set vs ∷ between) ++ Cut set ws ∷ later) (subst (AreAllowed s) (append_assoc earlier (Cut set vs ∷ between) (Cut set ws ∷ later)) all) in
    not_again (after (after_all s earlier) (Cut set vs)) between later set ws (omega arith) rest.1

-- ## a file comes back

-- an image that was cut before these steps, and is there after them, is that one
same_cut : (s : PlainStore) (xs : List Step) (set v : ℕ) (blocks found : List (List ℕ)) → set ≤ s.last → AreAllowed s xs → image_of s set v ≡ Some blocks
    → image_of (after_all s xs) set v ≡ Some found → found ≡ blocks
same_cut s xs set v blocks found given all has at = (grind (arith, not_again, images_come s xs set v found all at))

pub files_back : FilesComeBack
files_back s earlier between later file shown n set v vs fits had all l among =
    let before = after_all s earlier in
    let cut = after before (Cut set vs) in
    let calls = Cut set vs ∷ between in
    let rest = allowed-append s earlier (calls ++ Shown set v shown ∷ later) (subst (AreAllowed s) (append_assoc earlier calls (Shown set v shown ∷ later)) all) in
    let last = allowed-append cut between (Shown set v shown ∷ later) rest.1 in
    let many = as_many_after s earlier in
    let here = cut-each vs v set before.volumes (omega arith) (rest.0.1 v) among in
    let same = same_cut cut between set v (plain_at before v).blocks last.0.0 (omega arith) (allowed-front cut between (Shown set v shown ∷ later) rest.1) here last.0.1 in
    last.0.2 ∙ ap file_in (same ∙ had) ∙ file_back n file fits

-- ## calls

allowed-both : (s : PlainStore) (xs ys : List Step) → AreAllowed s xs → AreAllowed (after_all s xs) ys → AreAllowed s (xs ++ ys)
allowed-both s [] ys first others = others
allowed-both s (x ∷ xs) ys first others = (first.0, allowed-both (after s x) xs ys first.1 others)

pub calls_follow : {D : Type 0} (told : D → Option (List (List ℕ))) → CallsFollowOneAnother told
calls_follow told p xs ys middle new first others = grind (arith, allowed-both, after-append)

pub show_step : {D : Type 0} (told : D → Option (List (List ℕ))) (old new : StoreValue D) (v : ℕ) (which : Which) (before later : Option (List ℕ)) (r : Result Unit ShowFault)
    → ((p : PlainStore) → StandsAs told old p → IsShow (shown_in p.volumes v which) before later r) → StandsStill told old new → OnOk r (IsShowStep told old new v which before later)
show_step told old new v which before later (Err fault) shown still = tt
show_step told old new v Now before later (Ok done) shown still = λ p stands.
    let is = shown p stands in
    (file_in is.blocks, is.took, record { allowed = (ap file_in (sym (same_Some (plain_at p v).blocks is.blocks is.are)), tt); stands = still p stands })
show_step told old new v (Of set) before later (Ok done) shown still = λ p stands.
    let is = shown p stands in
    (file_in is.blocks, is.took, record { allowed = ((is.blocks, is.are, refl), tt); stands = still p stands })

pub opened_step : {D C R : Type 0} (ghosts : Ghosts D) (old : StoreValue D) (said head : HeadValue) (devices later : List D) (area again : D)
    (closed : Result Unit C) (answer : Result (StoreValue D) R) → OnOk closed
    ((p : PlainStore) → StandsAs ghosts.told old p → IsKeptAs ghosts.lasting devices area said p)
    → ((devices later : List D) (area again : D) (p : PlainStore) → IsKeptAs ghosts.lasting devices area said p
    → map ghosts.told later ≡ map ghosts.lasting devices → ghosts.told again ≡ ghosts.lasting area → IsKeptAs ghosts.told later again head p)
    → IfOk answer (λ new. (p : PlainStore) → IsKeptAs ghosts.told later again head p → StandsAs ghosts.told new p)
    → OnOk closed (IfOk answer (λ new. map ghosts.told later ≡ map ghosts.lasting devices → ghosts.told again ≡ ghosts.lasting area → (p : PlainStore)
    → StandsAs ghosts.told old p → AreTaken ghosts.told p (Opened ∷ []) new))
opened_step ghosts old said head devices later area again (Err fault) answer kept found stands = tt
opened_step ghosts old said head devices later area again (Ok done) (Err refused) kept found stands = tt
opened_step ghosts old said head devices later area again (Ok done) (Ok new) kept found stands = λ tells slots p stood.
    record { allowed = (tt, tt); stands = stands p (found devices later area again p (kept p stood) tells slots) }
