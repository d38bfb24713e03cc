-- Whom the session knows, and what it takes: from what is kept, as the definitions say.
use Rattle.sessions.proofs.Words.{range_with_len, BadState, ObjectNotFound, ObjectAlreadyExists, sha256, Clean, Span, AddFault, document_text, Told, Reply, Fine, Coded}
use Rattle.sessions.proofs.Words.{NotSelectable, DocumentOf, HasLists, Fits, mark_of, WriterRow, Meta, IsAllowed, prepared, Mode, Session, Held, all_have_few, pairs_of, is_named, Naming, Names}
use Rattle.sessions.proofs.Words.{naming, Selected, Named, all_of, is_taker, takers, AreAllowed, IsSelectedOver, meta_at, begun_as, enabled}
use Rattle.sessions.proofs.Words.{is_disabled as is_disabled_kept, writer_count, named, Plan, WriterPlan, token, IsWriter, State, in_progress, runs, has_no_volume, SessionMove, SessionsValue, Keeps}
use Rattle.sessions.proofs.Words.{IsOf, IsAt, ComesTo, HasBegun, IsDocumentIn, is_all, takes_all_of, IsAtOver, told_alone, told_named, and_parts, cond-false, cond-true, Goes}
use Rattle.sessions.proofs.Words.{all_known, known_at, named_known}
use Rattle.std.proofs.Common.{◌≡◌, ℕ, zero, suc, ◌+◌, ◌<◌, ◌==◌, List, [], ◌∷◌, ◌++◌, drop, length, refl, ap, sym, ◌∙◌, subst, arith, append_assoc, add-one, Bool, true, false, Option, Some, slice_get}
use Rattle.std.specs.Prelude.{All, filter, is_some, option_map, not, ◌&&◌, if◌then◌else◌, Result, Ok, Err, OnOk, OnErr, IfErr}
use Rattle.component_doc.specs.declared.add_fault.AddFault.TheVariants as fault
use Rattle.component_doc.specs.Refusal.{Tells}
use Rattle.set_agenda.specs.declared.kind.Kind.TheVariants as kind
use Rattle.requestor.specs.declared.session_call.SessionCall.TheVariants as call
use Rattle.scenario.specs.declared.op.Op.TheVariants as op
use Rattle.vss_model.specs.declared.told.Told.TheVariants as told
use Rattle.vss_model.specs.Sessions.{is_disabled, has_failed_identify, is_identify_failure, is_known, meta_if, known_from, known_metas, selected, selected_in}
use Rattle.vss_model.proofs.StateForm.{line_in, component_in, named_as}
use Rattle.sessions.proofs.Lines.{alone, line_of, refuses, pends, is_disabled_same, volume_test}
use Rattle.sessions.proofs.Concluding.{no_end, keeps_named}

-- ## whom the session knows

pub unknown_is : (s : Plan) (st : State) (w : ℕ) (b : Bool) → b ≡ is_disabled s st w → b ≡ true → false ≡ is_known s st w
unknown_is s st w b e f = ap (λ (d : Bool). not d && not (has_failed_identify (slice_get st.course.rows w))) (sym f ∙ e)

pub known_is : (s : Plan) (st : State) (w : ℕ) (b : Bool) (r : WriterRow) → b ≡ is_disabled s st w → b ≡ false → Some r ≡ slice_get st.course.rows w
    → not (is_identify_failure r.state) ≡ is_known s st w
known_is s st w b r e f row = grind arith

record IsNext (ps : List WriterPlan) (w : ℕ) (m : Meta) : Type 0 where
  writer : WriterPlan
  is : drop w ps ≡ writer ∷ drop (suc w) ps
  meta : writer.meta ≡ m

next_at : (ps : List WriterPlan) (w : ℕ) (m : Meta) → option_map (λ (p : WriterPlan). p.meta) (slice_get ps w) ≡ Some m → IsNext ps w m
next_at [] w m e = cc
next_at (p ∷ ps) zero m e = record { writer = p; is = refl; meta = cc }
next_at (p ∷ ps) (suc w) m e = let h = next_at ps w m e in record { writer = h.writer; is = h.is; meta = h.meta }

pub known_step : (s : Plan) (st : State) (w : ℕ) (xs ys total : List (Option Meta)) (b : Bool) (m : Meta) → b ≡ is_known s st w
    → option_map (λ (p : WriterPlan). p.meta) (slice_get s.writers w) ≡ Some m
    → xs ++ known_from s st w (drop w s.writers) ≡ total → ys ≡ xs ++ meta_if b m ∷ [] → ys ++ known_from s st (w + 1) (drop (w + 1) s.writers) ≡ total
known_step s st w xs ys total b m knows at so_far is =
    let h = next_at s.writers w m at in
    let tail : known_from s st w (drop w s.writers) ≡ meta_if b m ∷ known_from s st (w + 1) (drop (w + 1) s.writers) =
    ap (known_from s st w) h.is
    ∙ ap (λ (x : Meta). meta_if (is_known s st w) x ∷ known_from s st (w + 1) (drop (suc w) s.writers)) h.meta
    ∙ ap (λ (c : Bool). meta_if c m ∷ known_from s st (w + 1) (drop (suc w) s.writers)) (sym knows)
    ∙ ap (λ (n : ℕ). meta_if b m ∷ known_from s st (w + 1) (drop n s.writers)) (sym (add-one w)) in
    ap (λ (zs : List (Option Meta)). zs ++ known_from s st (w + 1) (drop (w + 1) s.writers)) is
    ∙ append_assoc xs (meta_if b m ∷ []) (known_from s st (w + 1) (drop (w + 1) s.writers))
    ∙ ap (λ (zs : List (Option Meta)). xs ++ zs) (sym tail) ∙ so_far

-- ## who takes part is known, and so is not disabled

within : (s : Plan) (st : State) (k : ℕ) (ps : List WriterPlan) (j : ℕ) → is_some (meta_at (slice_get (known_from s st k ps) j)) ≡ true → j < length ps
within s st k [] j h = absurd cc
within s st k (p ∷ ps) zero h = omega arith
within s st k (p ∷ ps) (suc j) h = let rest = within s st (k + 1) ps j h in omega (arith, rest)

taker_known : (ms : List (Option Meta)) (sel : Selected) (w : ℕ) → IsSelectedOver ms sel → is_taker sel w ≡ true → is_some (meta_at (slice_get ms w)) ≡ true
taker_known ms sel w over e = grind (arith, named_known, and_parts, all_known)

filter_same : (p q : ℕ → Bool) (xs : List ℕ) → ((w : ℕ) → q w ≡ true → p w ≡ true) → filter p (filter q xs) ≡ filter q xs
filter_same p q [] h = refl
filter_same p q (x ∷ xs) h = by_test (filter_same p q xs h) (q x) refl
  where
    by_test : filter p (filter q xs) ≡ filter q xs → (b : Bool) → q x ≡ b → filter p (if b then x ∷ filter q xs else filter q xs) ≡ (if b then x ∷ filter q xs else filter q xs)
    by_test rest true e = ap (λ (c : Bool). if c then x ∷ filter p (filter q xs) else filter p (filter q xs)) (h x e) ∙ ap (λ (ys : List ℕ). x ∷ ys) rest
    by_test rest false e = rest

pub enabled_takers : (x : SessionsValue) (s : Plan) (st : State) (sel : Selected) (n : ℕ) → Keeps x st → IsOf x s → IsSelectedOver (known_metas s st) sel
    → enabled x.coordinator.writers st.course.disabled (takers n sel) ≡ takers n sel
enabled_takers x s st sel n kept of over = filter_same (λ w. not (is_disabled_kept x.coordinator.writers st.course.disabled w)) (is_taker sel) (range_with_len 0 n) (λ w e.
    let taker = taker_known (known_metas s st) sel w over e in
    let zero_plus : 0 + w ≡ w = omega arith in
    let known : is_known s st w ≡ true = ap (is_known s st) (sym zero_plus) ∙ known_at s st 0 s.writers w taker in
    let few : w < writer_count x.coordinator = let l = within s st 0 s.writers w taker in let c = of.count in omega (arith, l, c) in
    ap not (is_disabled_same x s st w kept of few) ∙ (and_parts (not (is_disabled s st w)) (not (has_failed_identify (slice_get st.course.rows w))) known).0)

-- ## prepare

pub takes_named : (m : Mode) (s : Plan) (st : State) → is_all m ≡ false → selected_in m s st ≡ Named st.explicit
takes_named m s st e = grind arith

pub takes_known : (m : Mode) (s : Plan) (st : State) → is_all m ≡ true → selected_in m s st ≡ all_of (known_metas s st)
takes_known m s st e = grind arith

pub mode_at : (x : SessionsValue) (st : State) (q : Session) (b c : Bool) → Keeps x st → st.session ≡ Some q → b ≡ takes_all_of x.requestor.session → b ≡ c → is_all q.mode ≡ c
mode_at x st q b c kept is e f = ap takes_all_of (sym (kept.session ∙ is)) ∙ sym e ∙ f

pub prepares : {s : Plan} {lane : ℕ} {st : State} {old new : SessionsValue} {m : SessionMove} (h : Held) (vs : List ℕ) (sel : Selected) → Goes st.session (runs st) call.Prepare → IsAtOver vs old s st
    → (length vs == 0) ≡ false
    → h.writers ≡ writer_count old.coordinator → h.selected ≡ sel → IsSelectedOver (known_metas s st) sel → ((q : Session) → st.session ≡ Some q → selected s q st ≡ sel)
    → HasBegun kind.Prepare h vs old new m → ComesTo s lane op.Prepare st new m
prepares {s = s} {lane = lane} {st = st} {old = old} h vs sel owner found some writers is over takes has =
    let at = found.at in
    let same : prepared (takers (length s.writers) (selected s owner.own st)) st.clock st.course ≡ begun_as kind.Prepare old.coordinator.writers h vs st.clock st.course =
    ap (λ (x : Selected). prepared (takers (length s.writers) x) st.clock st.course) (takes owner.own owner.is)
    ∙ ap (λ (ts : List ℕ). prepared ts st.clock st.course) (sym (enabled_takers old s st sel (length s.writers) at.keeps at.of over))
    ∙ ap (λ (n : ℕ). prepared (enabled old.coordinator.writers st.course.disabled (takers n sel)) st.clock st.course) (sym at.of.count ∙ sym writers)
    ∙ ap (λ (x : Selected). prepared (enabled old.coordinator.writers st.course.disabled (takers h.writers x)) st.clock st.course) (sym is) in
    pends _ (line_of s lane op.Prepare st owner.own owner.is ∙ cond-false (has_no_volume (in_progress st)) _ _ (sym (volume_test (in_progress st) vs found.volumes) ∙ some))
    (has st _ at.order at.keeps same)

pub prepares_not : {s : Plan} {lane : ℕ} {st : State} {x : SessionsValue} {m : SessionMove} (vs : List ℕ) → Goes st.session (runs st) call.Prepare → IsAtOver vs x s st → (length vs == 0) ≡ true
    → m ≡ told_alone (told.Result BadState) → ComesTo s lane op.Prepare st x m
prepares_not {s = s} {lane = lane} {st = st} vs owner at none is =
    refuses BadState is (line_of s lane op.Prepare st owner.own owner.is ∙ cond-true (has_no_volume (in_progress st)) _ _ (sym (volume_test (in_progress st) vs at.volumes) ∙ none)) at.at

-- ## what is known is as its format allows

allowed_if : (b : Bool) (m : Meta) (ms : List (Option Meta)) → IsAllowed m → AreAllowed ms → AreAllowed (meta_if b m ∷ ms)
allowed_if b m ms h rest = grind arith

pub known_allowed : (s : Plan) (st : State) (k : ℕ) (ps : List WriterPlan) → All (IsWriter s) ps → AreAllowed (known_from s st k ps)
known_allowed s st k [] h = tt
known_allowed s st k (p ∷ ps) h = allowed_if (is_known s st k) p.meta (known_from s st (k + 1) ps) (h 0 p (omega arith)).allowed
    (known_allowed s st (k + 1) ps (λ i d l. h (suc i) d (omega (arith, l))))

few_if : (b : Bool) (m : Meta) (ms : List (Option Meta)) → IsAllowed m → all_have_few ms ≡ true → all_have_few (meta_if b m ∷ ms) ≡ true
few_if b m ms h rest = grind arith

pub known_few : (s : Plan) (st : State) (k : ℕ) (ps : List WriterPlan) → All (IsWriter s) ps → all_have_few (known_from s st k ps) ≡ true
known_few s st k [] h = refl
known_few s st k (p ∷ ps) h = few_if (is_known s st k) p.meta (known_from s st (k + 1) ps) (h 0 p (omega arith)).allowed (known_few s st (k + 1) ps (λ i d l. h (suc i) d (omega (arith, l))))

-- ## component

all_refused : (m : Mode) (s : Plan) (w : ℕ) (name : List ℕ) (st : State) → is_all m ≡ true → component_in m s w name st ≡ (Coded BadState, st)
all_refused m s w name st e = grind arith

named_in : (m : Mode) (s : Plan) (w : ℕ) (name : List ℕ) (st : State) → is_all m ≡ false → component_in m s w name st ≡ named_as (naming (known_metas s st) w name st.explicit) st
named_in m s w name st e = grind arith

pub names_not : {s : Plan} {lane w : ℕ} {full : Span} {st : State} {x : SessionsValue} {m : SessionMove} (b : Bool) → Goes st.session (runs st) call.Component → IsAt x s st
    → b ≡ takes_all_of x.requestor.session → b ≡ true
    → m ≡ told_alone (told.Result BadState) → ComesTo s lane (op.Component w full) st x m
names_not {s = s} {lane = lane} {w = w} {full = full} {st = st} {x = x} b owner at takes all is =
    refuses BadState is (line_of s lane (op.Component w full) st owner.own owner.is ∙ all_refused owner.own.mode s w (token s full) st (mode_at x st owner.own b true at.keeps owner.is takes all)) at

named_pairs : (x : Selected) → is_named x ≡ true → x ≡ Named (pairs_of x)
named_pairs x e = grind arith

pub names_component : {s : Plan} {lane w : ℕ} {full : Span} {st : State} {x : SessionsValue} {m : SessionMove} (h : Held) (t : Told) (b : Bool) (added : Result (Unit {0}) AddFault)
    (ms : List (Option Meta)) (name : List ℕ)
    → Goes st.session (runs st) call.Component → IsAt x s st → m ≡ told_alone t → b ≡ takes_all_of x.requestor.session → b ≡ false → ms ≡ known_metas s st → name ≡ token s full
    → OnOk added (naming ms w name (pairs_of x.selection.selected) ≡ Names (pairs_of h.selected)) → IfErr added (λ fault. Tells fault (naming ms w name (pairs_of x.selection.selected)))
    → OnErr added (h ≡ x.selection) → h.writers ≡ x.selection.writers → is_named h.selected ≡ true → told_named added ≡ Some t → ComesTo s lane (op.Component w full) st (record x { selection = h }) m
names_component {s = s} {lane = lane} {w = w} {full = full} {st = st} {x = x} {m = m} h t b added ms name owner at is takes not_all known token_is ok refused unchanged writers named tells =
    by_added added ok refused unchanged tells
  where
    same : naming ms w name (pairs_of x.selection.selected) ≡ naming (known_metas s st) w (token s full) st.explicit
    same = ap (λ (ys : List (Option Meta)). naming ys w name (pairs_of x.selection.selected)) known ∙ ap (λ (n : List ℕ). naming (known_metas s st) w n (pairs_of x.selection.selected)) token_is
        ∙ ap (λ (z : Selected). naming (known_metas s st) w (token s full) (pairs_of z)) at.keeps.explicit

    does : (n : Naming) → naming ms w name (pairs_of x.selection.selected) ≡ n → line_in s lane (op.Component w full) st.session st ≡ named_as n st
    does n e = line_of s lane (op.Component w full) st owner.own owner.is ∙ named_in owner.own.mode s w (token s full) st (mode_at x st owner.own b false at.keeps owner.is takes not_all)
        ∙ ap (λ (z : Naming). named_as z st) (sym same ∙ e)

    -- the refusals leave all as it was
    stays : (u : Told) (r : Reply) (n : Naming) → h ≡ x.selection → Some u ≡ Some t → naming ms w name (pairs_of x.selection.selected) ≡ n → named_as n st ≡ (r, st)
        → ((tells : List Bool) → Fits tells r u) → ((listed : List ℕ) (rows : List WriterRow) → HasLists r listed rows)
        → mark_of u ≡ Clean → ComesTo s lane (op.Component w full) st (record x { selection = h }) m
    stays u r n unchanged told_so e comes fits lists clean =
        let so : u ≡ t = cc in
        subst (λ (z : Held). ComesTo s lane (op.Component w full) st (record x { selection = z }) m) (sym unchanged)
        (alone u r st (is ∙ ap told_alone (sym so)) (does n e ∙ comes) fits (λ listed rows g. lists listed rows) clean (no_end st at.order) refl at.keeps)

    by_added : (a : Result (Unit {0}) AddFault) → OnOk a (naming ms w name (pairs_of x.selection.selected) ≡ Names (pairs_of h.selected))
        → IfErr a (λ fault. Tells fault (naming ms w name (pairs_of x.selection.selected)))
        → OnErr a (h ≡ x.selection) → told_named a ≡ Some t → ComesTo s lane (op.Component w full) st (record x { selection = h }) m
    by_added (Ok u) e refused unchanged tells =
        let so : told.Ok ≡ t = cc in
        alone told.Ok Fine (record st { explicit = pairs_of h.selected }) (is ∙ ap told_alone (sym so)) (does (Names (pairs_of h.selected)) e) (λ tells. refl) (λ listed rows g. tt) refl
        (no_end st at.order) refl
        (keeps_named x st x.requestor st.session h _ at.keeps at.keeps.session refl (named_pairs h.selected named) (writers ∙ at.keeps.over))
    by_added (Err fault.NotFound) ok e unchanged tells = stays (told.Result ObjectNotFound) (Coded ObjectNotFound) _ unchanged tells e refl (λ tells. refl) (λ listed rows. tt) refl
    by_added (Err fault.NotSelectable) ok e unchanged tells = stays told.NotSelectable NotSelectable _ unchanged tells e refl (λ tells. refl) (λ listed rows. tt) refl
    by_added (Err fault.AlreadyExists) ok e unchanged tells = stays (told.Result ObjectAlreadyExists) (Coded ObjectAlreadyExists) _ unchanged tells e refl (λ tells. refl) (λ listed rows. tt) refl
    by_added (Err fault.OutOfMemory) ok e unchanged tells = cc

-- ## document

pub documents : {s : Plan} {lane : ℕ} {st : State} {x : SessionsValue} {m : SessionMove} (t : Told) (bytes : List ℕ) → Goes st.session (runs st) call.Document → IsAt x s st → IsDocumentIn s x bytes
    → t ≡ told.Document (length bytes) (sha256 bytes)
    → m ≡ told_alone t → ComesTo s lane op.Document st x m
documents {s = s} {lane = lane} {st = st} t bytes owner at written tells is =
    let same = written st owner.own at owner.is in
    alone t (DocumentOf (document_text (known_metas s st) (selected s owner.own st) owner.own.context)) st is (line_of s lane op.Document st owner.own owner.is)
    (λ z. tells ∙ ap (λ (bs : List ℕ). told.Document (length bs) (sha256 bs)) same) (λ listed rows e. tt) (ap mark_of tells) (no_end st at.order) refl at.keeps
