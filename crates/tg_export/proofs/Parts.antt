-- A CAR that is given in parts: the header, and section behind section.
use Rattle.std.proofs.Common.{All, arith, Err, List, None, Ok, Option, Some, [], ap, append-nil, append_assoc, inl, inr, length, map, refl, subst, sym, ℕ, ◌++◌, ◌∙◌, ◌∷◌, ◌<◌, ◌≡◌, ◌≤◌}
use Rattle.std.specs.Prelude.{IfSome, Result, ⊤}
use Rattle.std.proofs.lemmas.List.{map-append}
use Rattle.std.proofs.lemmas.List.Elements.{All-append, All-cons, All-nil}
use Rattle.tg_car.specs.CarText.{SectionText, SectionsText}
use Rattle.tg_car.specs.Writing.{HeaderOf}
use Rattle.tg_car.specs.declared.section.Section.{Section as CarSection}
use Rattle.tg_cid.specs.Cid.{CidParts}
use Rattle.tg_cid.specs.Limits.{max_block_len}
use Rattle.tg_cid.specs.Names.{Names}
use Rattle.tg_export.specs.Cars.{CarEnds, HasCar, HasOwnMemory, HasResolved, IsGoodSection, PutNothing, PutWhole, fault_of_path, fault_of_walk}
use Rattle.tg_export.specs.Given.{CarGiven, FailsIn, Gives, Giving, HasText, HasTexts, SectionsGiven, giving_in}
use Rattle.tg_export.specs.declared.fault.ExportFault.{ExportFault}
use Rattle.tg_export.specs.declared.fault.ExportFault.TheVariants as faults
use Rattle.tg_model.specs.Dag.{Section}
use Rattle.tg_model.specs.PathWalk.{TraversalEnd, bad_block, gone, not_folder, not_there, stopped, whole}
use Rattle.tg_model.specs.Queries.{QueryParts}
use Rattle.tg_model.specs.StoreView.{store_view}
use Rattle.tg_model.specs.Stores.{Store}
use Rattle.tg_model.specs.Traversal.{ListedEntry, Place, Traversal, and_then, traversal}
use Rattle.tg_model.specs.declared.stores.BlocksFault.TheVariants as store_faults
use Rattle.tg_store.specs.Packs.{in_car}
use Rattle.tg_streams.specs.Gathering.{Gave, gave_front, gave_front_out, gave_gave, gave_nothing, gave_put}
use Rattle.tg_streams.specs.Joining.{SinkJoins}
use Rattle.tg_streams.specs.Streams.{Output, PutFront, SinkMeaning, into}
use Rattle.tg_model_laws.specs.Stages.{Given, ending, nothing_given}
use Rattle.tg_model_laws.specs.StoreWalks.{WalkLaws, section_of}
use Rattle.tg_walk.specs.Resolving.{IsResolvedTo}
use Rattle.tg_walk.specs.Walks.{HasEnded, HasStepped, HasWalkCause, IsFront, IsNamedFound, IsOnWalk, StandsBy, StandsFor, WalkState, max_depth}
use Rattle.tg_walk.specs.declared.fault.ResolveFault.{ResolveFault}
use Rattle.tg_walk.specs.declared.fault.ResolveFault.TheVariants as refusals
use Rattle.tg_walk.specs.declared.fault.WalkFault.{WalkFault}
use Rattle.tg_walk.specs.declared.fault.WalkFault.TheVariants as walks

-- ---- one section more

sections_then : (sections : List CarSection) (section : CarSection) (bytes text : List ℕ) → SectionsText sections bytes → SectionText section text
    → SectionsText (sections ++ section ∷ []) (bytes ++ text)
sections_then [] section bytes text e is = (text, [], ap (λ (b : List ℕ). b ++ text) e ∙ sym (append-nil text), is, refl)
sections_then (first ∷ sections) section bytes text (front, rest, e, t, more) is =
    (front, rest ++ text, ap (λ (b : List ℕ). b ++ text) e ∙ append_assoc front rest text, t, sections_then sections section rest text more is)

texts_then : (sections : List Section) (section : Section) (bytes text : List ℕ) → SectionsText (map in_car sections) bytes → SectionText (in_car section) text
    → SectionsText (map in_car (sections ++ section ∷ [])) (bytes ++ text)
texts_then sections section bytes text p is =
    subst (λ (l : List CarSection). SectionsText l (bytes ++ text)) (sym (map-append in_car sections (section ∷ []))) (sections_then (map in_car sections) (in_car section) bytes text p is)

good_then : (sections : List Section) (cid : CidParts) (block : List ℕ) → All IsGoodSection sections → Names cid block → length block ≤ max_block_len
    → All IsGoodSection (sections ++ section_of cid block ∷ [])
good_then sections cid block all named small =
    All-append IsGoodSection sections (section_of cid block ∷ []) all
    (All-cons IsGoodSection (section_of cid block) [] (record { named = named; small = small }) (All-nil IsGoodSection))

-- told or not, one thing after another holds
told_then : (told : Option Store) (holds after : Store → Type 0) → ((store : Store) → told ≡ Some store → holds store → after store) → IfSome told holds → IfSome told after
told_then None holds after step h = tt
told_then (Some store) holds after step h = step store refl h

pub told_each : (told : Option Store) (holds : Store → Type 0) → ((store : Store) → told ≡ Some store → holds store) → IfSome told holds
told_each None holds h = tt
told_each (Some store) holds h = h store refl

-- ---- a walk that has given these sections

-- what it has given is a front of the traversal
pub front_of : (laws : WalkLaws) (state : WalkState) (store : Store) (sections : List Section) → state.refused ≡ None → StandsFor state store sections → IsFront state.left.query store sections
front_of laws state store sections e stands =
    let on : IsOnWalk max_depth state.left state.known store sections = subst (λ (refused : Option WalkFault). StandsBy refused max_depth state.left state.known store sections) e stands in
    let front = laws.front state.left.query store max_depth on.given _ on.walked in
    record { given = on.given; gave = on.gave; rest = front.0; front = front.1 }

pub cause_of : (state : WalkState) (store : Store) (sections : List Section) (fault : WalkFault) → state.refused ≡ Some fault → StandsFor state store sections
    → HasWalkCause state.left.query store max_depth sections fault
cause_of state store sections fault e stands = subst (λ (refused : Option WalkFault). StandsBy refused max_depth state.left state.known store sections) e stands

-- the sections of a walk's end are a front too, behind which no more came
all_front : (given : Given) (end : TraversalEnd) → ending given end ≡ and_then (ending given whole) (ending nothing_given end)
all_front given end = sym
    (ap (λ (places : List Place). record { places = places; text = given.text ++ []; met = given.met ++ []; end = end }) (append-nil given.places)
    ∙ ap (λ (text : List ℕ). record { places = given.places; text = text; met = given.met ++ []; end = end }) (append-nil given.text)
    ∙ ap (λ (met : List ListedEntry). record { places = given.places; text = given.text; met = met; end = end }) (append-nil given.met))

front_by : (t : Traversal) (given : Given) (end : TraversalEnd) → t ≡ ending given end → t ≡ and_then (ending given whole) (ending nothing_given end)
front_by t given end e = subst (λ (all : Traversal). t ≡ all) (all_front given end) e

front_of_end : (q : QueryParts) (store : Store) (sections : List Section) (end : TraversalEnd) → HasEnded q store max_depth sections end → IsFront q store sections
front_of_end q store sections end h =
    let front = front_by (traversal q (store_view store q.root)) h.given end h.ends.full in
    record { given = h.given; gave = h.gave; rest = ending nothing_given end; front = front }

front_of_cause : (q : QueryParts) (store : Store) (sections : List Section) (fault : WalkFault) → HasWalkCause q store max_depth sections fault → IsFront q store sections
front_of_cause q store sections (walks.BadBlock cid fault) (spot, e, d, h) = front_of_end q store sections (stopped (bad_block spot fault)) h
front_of_cause q store sections (walks.Gone cid) (spot, e, d, h) = front_of_end q store sections (stopped (gone spot)) h
front_of_cause q store sections walks.TooDeep h = record { given = h.given; gave = h.gave; rest = h.deep.rest; front = h.deep.full }
front_of_cause q store sections (walks.Store fault) h = h
front_of_cause q store sections (walks.NotThere i) h = front_of_end q store sections (stopped (not_there i)) h
front_of_cause q store sections (walks.NotFolder i) h = front_of_end q store sections (stopped (not_folder i)) h
front_of_cause q store sections walks.OutOfMemory h = h

-- ---- what was given behind the header

-- the same texts, of which another thing holds
retold : (told : Option Store) (holds after : Store → List Section → Type 0) (done : List ℕ → Type 0)
    → ((store : Store) (sections : List Section) → told ≡ Some store → holds store sections → after store sections) → HasTexts told holds done → HasTexts told after done
retold told holds after done step h = record {
  sections = h.sections;
  bytes = h.bytes;
  named = h.named;
  texts = h.texts;
  is_so = told_then told (λ store. holds store h.sections) (λ store. after store h.sections) (λ store e p. step store h.sections e p) h.is_so;
  is_done = h.is_done;
}

-- and one section more
with_text : (told : Option Store) (holds after : Store → List Section → Type 0) (done more all : List ℕ → Type 0) (cid : CidParts) (block : List ℕ)
    → ((store : Store) (sections : List Section) → told ≡ Some store → holds store sections → after store (sections ++ section_of cid block ∷ []))
    → ((u v : List ℕ) → done u → more v → all (u ++ v)) → Names cid block → length block ≤ max_block_len → HasText (section_of cid block) more → HasTexts told holds done → HasTexts told after all
with_text told holds after done more all cid block step both named small t h = record {
  sections = h.sections ++ section_of cid block ∷ [];
  bytes = h.bytes ++ t.text;
  named = good_then h.sections cid block h.named named small;
  texts = texts_then h.sections (section_of cid block) h.bytes t.text h.texts t.text_is;
  is_so = told_then told (λ store. holds store h.sections) (λ store. after store (h.sections ++ section_of cid block ∷ [])) (λ store e p. step store h.sections e p) h.is_so;
  is_done = both h.bytes t.text h.is_done t.is_done;
}

-- the texts of what the walk has given were given
abbrev pub HasGivenTexts : Option Store → WalkState → Giving → Type 0
HasGivenTexts told state giving = HasTexts told (λ store sections. StandsFor state store sections) (Gives giving)

pub none_given : {S : Type 0} (m : SinkMeaning S) (a : S) (old : List ℕ) (told : Option Store) (state : WalkState) → m.wrote a a [] → ((store : Store) → StandsFor state store [])
    → HasGivenTexts told state (giving_in old old (into m a a))
none_given m a old told state rests stands = record {
  sections = [];
  bytes = [];
  named = All-nil IsGoodSection;
  texts = refl;
  is_so = told_each told (λ store. StandsFor state store []) (λ store e. stands store);
  is_done = gave_nothing _ m a old rests;
}

-- a step of the walk, which is called over what the store tells now
abbrev pub HasNext : Option Store → WalkState → Result (Option (CidParts × List ℕ)) WalkFault → WalkState → Type 0
HasNext told state found new = (store : Store) (sections : List Section) → told ≡ Some store → StandsFor state store sections → HasStepped found new store sections

-- the walk gave a block, whose section was given, or out failed in it
pub gives_more : {S : Type 0} (m : SinkMeaning S) (a b c : S) (g0 g1 g2 : List ℕ) (told now : Option Store) (state new : WalkState) (cid : CidParts) (block : List ℕ) → SinkJoins S m → now ≡ told
    → HasNext now state (Ok (Some (cid, block))) new → IsNamedFound (Ok (Some (cid, block))) → HasText (section_of cid block) (Gives (giving_in g1 g2 (into m b c)))
    → HasGivenTexts told state (giving_in g0 g1 (into m a b)) → HasGivenTexts told new (giving_in g0 g2 (into m a c))
gives_more m a b c g0 g1 g2 told now state new cid block joins e next found t h =
    with_text told (λ store sections. StandsFor state store sections) (λ store sections. StandsFor new store sections)
    (Gives (giving_in g0 g1 (into m a b))) (Gives (giving_in g1 g2 (into m b c))) (Gives (giving_in g0 g2 (into m a c))) cid block
    (λ store sections is stands. next store sections (e ∙ is) stands) (λ u v p q. gave_gave _ m a b c u v g0 g1 g2 joins p q) found.0 found.1 t h

pub sink_ends : {S : Type 0} (m : SinkMeaning S) (a b c : S) (g0 g1 g2 : List ℕ) (laws : WalkLaws) (q : QueryParts) (told now : Option Store) (state new : WalkState) (cid : CidParts) (block : List ℕ) → SinkJoins S m
    → now ≡ told → new.left.query ≡ q → new.refused ≡ None
    → HasNext now state (Ok (Some (cid, block))) new → IsNamedFound (Ok (Some (cid, block))) → HasText (section_of cid block) (FailsIn (giving_in g1 g2 (into m b c))) → g2 ≡ []
    → HasGivenTexts told state (giving_in g0 g1 (into m a b)) → SectionsGiven q told (giving_in g0 g2 (into m a c)) (Err faults.SinkFault)
unfolding SectionsGiven
sink_ends m a b c g0 g1 g2 laws q told now state new cid block joins e is_q none next found t nothing h = (
  with_text told (λ store sections. StandsFor state store sections) (λ store sections. IsFront q store sections)
      (Gives (giving_in g0 g1 (into m a b))) (FailsIn (giving_in g1 g2 (into m b c))) (FailsIn (giving_in g0 g2 (into m a c))) cid block
      (λ store sections is stands. subst (λ (q : QueryParts). IsFront q store (sections ++ section_of cid block ∷ [])) is_q
      (front_of laws new store (sections ++ section_of cid block ∷ []) none (next store sections (e ∙ is) stands)))
      (λ u v p q. gave_front _ m a b c u v g0 g1 joins p q) found.0 found.1 t h,
  nothing,
)

-- the walk gave no more
pub all_given : (giving : Giving) (q : QueryParts) (told now : Option Store) (state new : WalkState) → now ≡ told → new.left.query ≡ q
    → HasNext now state (Ok None) new → HasGivenTexts told state giving → SectionsGiven q told giving (Ok tt)
unfolding SectionsGiven
all_given giving q told now state new e is_q next h =
    retold told (λ store sections. StandsFor state store sections) (λ store sections. HasEnded q store max_depth sections whole) (Gives giving)
    (λ store sections is stands. subst (λ (q : QueryParts). HasEnded q store max_depth sections whole) is_q (next store sections (e ∙ is) stands).1) h

-- or it was refused
fault_ends : (giving : Giving) (q : QueryParts) (told : Option Store) (fault : WalkFault) → HasTexts told (λ store sections. HasWalkCause q store max_depth sections fault) (Gives giving)
    → SectionsGiven q told giving (Err (fault_of_walk fault))
unfolding SectionsGiven
fault_ends giving q told (walks.BadBlock cid fault) h = h
fault_ends giving q told (walks.Gone cid) h = h
fault_ends giving q told walks.TooDeep h = h
fault_ends giving q told (walks.Store (store_faults.Changed want got)) h = h
fault_ends giving q told (walks.Store store_faults.Failed) h = h
fault_ends giving q told (walks.Store store_faults.OutOfMemory) h = h
fault_ends giving q told (walks.NotThere i) h = h
fault_ends giving q told (walks.NotFolder i) h = h
fault_ends giving q told walks.OutOfMemory h = h

pub walk_ends : (giving : Giving) (q : QueryParts) (told now : Option Store) (state new : WalkState) (fault : WalkFault) → now ≡ told → new.left.query ≡ q → new.refused ≡ Some fault
    → HasNext now state (Err fault) new → HasGivenTexts told state giving → SectionsGiven q told giving (Err (fault_of_walk fault))
walk_ends giving q told now state new fault e is_q some next h =
    fault_ends giving q told fault
    (retold told (λ store sections. StandsFor state store sections) (λ store sections. HasWalkCause q store max_depth sections fault) (Gives giving)
    (λ store sections is stands. subst (λ (q : QueryParts). HasWalkCause q store max_depth sections fault) is_q (cause_of new store sections fault some (next store sections (e ∙ is) stands))) h)

-- ---- the header before them

with_header : (root : CidParts) (told : Option Store) (holds after : Store → List Section → Type 0) (done all : List ℕ → Type 0) (header : List ℕ) → HeaderOf root header
    → ((store : Store) (sections : List Section) → told ≡ Some store → holds store sections → after store sections) → ((bytes : List ℕ) → done bytes → all (header ++ bytes))
    → HasTexts told holds done → HasCar root told after all
with_header root told holds after done all header is step both h = record {
  sections = h.sections;
  bytes = header ++ h.bytes;
  named = h.named;
  car = record { header = header; rest = h.bytes; whole = refl; header_is = is; sections_are = h.texts };
  is_so = told_then told (λ store. holds store h.sections) (λ store. after store h.sections) (λ store e p. step store h.sections e p) h.is_so;
  is_done = both h.bytes h.is_done;
}

abbrev pub IsResolved : QueryParts → Option Store → Type 0
IsResolved q told = (store : Store) → told ≡ Some store → HasResolved store q

pub resolved : (q : QueryParts) (told : Option Store) (root : CidParts) (path : List (List ℕ)) (cid : CidParts) → root ≡ q.root → path ≡ q.path
    → ((store : Store) → told ≡ Some store → IsResolvedTo store root path (Ok cid)) → IsResolved q told
resolved q told root path cid e f leads store is = record {
  cid = cid;
  leads = subst (λ (r : CidParts). IsResolvedTo store r q.path (Ok cid)) e (subst (λ (p : List (List ℕ)). IsResolvedTo store root p (Ok cid)) f (leads store is));
}

pub car_given : {S : Type 0} (m : SinkMeaning S) (a b c : S) (g0 g1 g2 : List ℕ) (q : QueryParts) (told : Option Store) (header : List ℕ) (result : Result ⊤ ExportFault) → SinkJoins S m → HeaderOf q.root header
    → IsResolved q told → Gave header g0 g1 (into m a b) → SectionsGiven q told (giving_in g1 g2 (into m b c)) result → CarGiven q told (giving_in g0 g2 (into m a c)) result
unfolding SectionsGiven CarGiven
car_given m a b c g0 g1 g2 q told header (Ok done) joins is way p h =
    with_header q.root told (λ store sections. HasEnded q store max_depth sections whole) (λ store sections. HasResolved store q × HasEnded q store max_depth sections whole)
    (Gives (giving_in g1 g2 (into m b c))) (Gives (giving_in g0 g2 (into m a c))) header is (λ store sections e x. (way store e, x)) (λ bytes d. gave_gave _ m a b c header bytes g0 g1 g2 joins p d) h
car_given m a b c g0 g1 g2 q told header (Err (faults.Walk fault)) joins is way p h =
    with_header q.root told (λ store sections. HasWalkCause q store max_depth sections fault) (λ store sections. HasResolved store q × HasWalkCause q store max_depth sections fault)
    (Gives (giving_in g1 g2 (into m b c))) (Gives (giving_in g0 g2 (into m a c))) header is (λ store sections e x. (way store e, x)) (λ bytes d. gave_gave _ m a b c header bytes g0 g1 g2 joins p d) h
car_given m a b c g0 g1 g2 q told header (Err faults.SinkFault) joins is way p h = (
  with_header q.root told (λ store sections. IsFront q store sections) (λ store sections. HasResolved store q × IsFront q store sections)
      (FailsIn (giving_in g1 g2 (into m b c))) (FailsIn (giving_in g0 g2 (into m a c))) header is (λ store sections e x. (way store e, x)) (λ bytes d. gave_front _ m a b c header bytes g0 g1 joins p d) h.0,
  h.1,
)
car_given m a b c g0 g1 g2 q told header (Err faults.OutOfMemory) joins is way p h =
    with_header q.root told (λ store sections. IsFront q store sections) (λ store sections. HasResolved store q × IsFront q store sections)
    (Gives (giving_in g1 g2 (into m b c))) (Gives (giving_in g0 g2 (into m a c))) header is (λ store sections e x. (way store e, x)) (λ bytes d. gave_gave _ m a b c header bytes g0 g1 g2 joins p d) h
car_given m a b c g0 g1 g2 q told header (Err (faults.Resolve fault)) joins is way p h = absurd h
car_given m a b c g0 g1 g2 q told header (Err (faults.Pack fault)) joins is way p h = absurd h

-- out failed in the header
pub header_fails : (giving : Giving) (q : QueryParts) (told : Option Store) (laws : WalkLaws) (state : WalkState) (header : List ℕ) → HeaderOf q.root header → IsResolved q told
    → state.left.query ≡ q → state.refused ≡ None → ((store : Store) → StandsFor state store []) → FailsIn giving header → giving.new ≡ [] → CarGiven q told giving (Err faults.SinkFault)
unfolding CarGiven
header_fails giving q told laws state header is way is_q none stands p nothing = (
  record {
    sections = [];
    bytes = header;
    named = All-nil IsGoodSection;
    car = record { header = header; rest = []; whole = sym (append-nil header); header_is = is; sections_are = refl };
    is_so = told_each told (λ store. HasResolved store q × IsFront q store [])
        (λ store e. (way store e, subst (λ (q : QueryParts). IsFront q store []) is_q (front_of laws state store [] none (stands store))));
    is_done = p;
  },
  nothing,
)

-- ---- what was given of a CAR, and then what is gathered put

-- it is of this query, over this store, and nothing was gathered before
pub car_of : {S : Type 0} (m : SinkMeaning S) (a b : S) (old g : List ℕ) (q p : QueryParts) (told now : Option Store) (end : Result ⊤ ExportFault) → old ≡ [] → p ≡ q → now ≡ told
    → CarGiven p now (giving_in old g (into m a b)) end → CarGiven q told (giving_in [] g (into m a b)) end
car_of m a b old g q p told now end none is_q is_told h =
    subst (λ (old : List ℕ). CarGiven q told (giving_in old g (into m a b)) end) none
    (subst (λ (told : Option Store). CarGiven q told (giving_in old g (into m a b)) end) is_told
    (subst (λ (q : QueryParts). CarGiven q now (giving_in old g (into m a b)) end) is_q h))

-- the same CAR, of which another thing holds
car_then : (root : CidParts) (told : Option Store) (holds after : Store → List Section → Type 0) (done all : List ℕ → Type 0)
    → ((store : Store) (sections : List Section) → holds store sections → after store sections) → ((bytes : List ℕ) → done bytes → all bytes) → HasCar root told holds done → HasCar root told after all
car_then root told holds after done all step both h = record {
  sections = h.sections;
  bytes = h.bytes;
  named = h.named;
  car = h.car;
  is_so = told_then told (λ store. holds store h.sections) (λ store. after store h.sections) (λ store e p. step store h.sections p) h.is_so;
  is_done = both h.bytes h.is_done;
}

none_left : (g : List ℕ) (n : ℕ) → g ≡ [] → n < length g → ⊥
none_left g n e h = let less : n < 0 = subst (λ (l : List ℕ). n < length l) e h in omega arith

put_whole : {S : Type 0} (m : SinkMeaning S) (a b c : S) (bytes g : List ℕ) → SinkJoins S m → Gave bytes [] g (into m a b) → PutWhole (into m b c) g → PutWhole (into m a c) bytes
put_whole m a b c bytes g joins gave p = let both = gave_put _ m a b c bytes [] g joins gave p.put p.quiet in record { put = both.0; quiet = both.1 }

module _ {S : Type 0} (m : SinkMeaning S) (a b c : S) (g : List ℕ) (q : QueryParts) (told : Option Store) (joins : SinkJoins S m) where
  -- it was put
  pub put_ends : (end : Result ⊤ ExportFault) → CarGiven q told (giving_in [] g (into m a b)) end → PutWhole (into m b c) g → (g ≡ [] → c ≡ b) → CarEnds q told (into m a c) end
  unfolding CarGiven
  put_ends (Ok done) h p still =
      car_then q.root told (λ store sections. HasResolved store q × HasEnded q store max_depth sections whole) (λ store sections. HasResolved store q × HasEnded q store max_depth sections whole)
      (Gives (giving_in [] g (into m a b))) (PutWhole (into m a c)) (λ store sections x. x) (λ bytes d. put_whole m a b c bytes g joins d p) h
  put_ends (Err (faults.Walk fault)) h p still =
      car_then q.root told (λ store sections. HasResolved store q × HasWalkCause q store max_depth sections fault) (λ store sections. HasResolved store q × HasWalkCause q store max_depth sections fault)
      (Gives (giving_in [] g (into m a b))) (PutWhole (into m a c)) (λ store sections x. x) (λ bytes d. put_whole m a b c bytes g joins d p) h
  put_ends (Err faults.SinkFault) h p still =
      car_then q.root told (λ store sections. HasResolved store q × IsFront q store sections) (λ store sections. HasResolved store q × IsFront q store sections)
      (FailsIn (giving_in [] g (into m a b))) (λ bytes. PutFront bytes (into m a c)) (λ store sections x. x)
      (λ bytes d. subst (λ (s : S). PutFront bytes (into m a s)) (sym (still h.1)) d) h.0
  put_ends (Err faults.OutOfMemory) h p still =
      inr (car_then q.root told (λ store sections. HasResolved store q × IsFront q store sections) (λ store sections. HasResolved store q × IsFront q store sections)
      (Gives (giving_in [] g (into m a b))) (PutWhole (into m a c)) (λ store sections x. x) (λ bytes d. put_whole m a b c bytes g joins d p) h)
  put_ends (Err (faults.Resolve fault)) h p still = absurd h
  put_ends (Err (faults.Pack fault)) h p still = absurd h

  -- or out failed in it
  pub out_ends : (end : Result ⊤ ExportFault) → CarGiven q told (giving_in [] g (into m a b)) end → PutFront g (into m b c) → CarEnds q told (into m a c) (Err faults.SinkFault)
  unfolding CarGiven
  out_ends (Ok done) h p =
      car_then q.root told (λ store sections. HasResolved store q × HasEnded q store max_depth sections whole) (λ store sections. HasResolved store q × IsFront q store sections)
      (Gives (giving_in [] g (into m a b))) (λ bytes. PutFront bytes (into m a c)) (λ store sections x. (x.0, front_of_end q store sections whole x.1))
      (λ bytes d. gave_front_out _ m a b c bytes [] g joins d p) h
  out_ends (Err (faults.Walk fault)) h p =
      car_then q.root told (λ store sections. HasResolved store q × HasWalkCause q store max_depth sections fault) (λ store sections. HasResolved store q × IsFront q store sections)
      (Gives (giving_in [] g (into m a b))) (λ bytes. PutFront bytes (into m a c)) (λ store sections x. (x.0, front_of_cause q store sections fault x.1))
      (λ bytes d. gave_front_out _ m a b c bytes [] g joins d p) h
  out_ends (Err faults.SinkFault) h p = absurd (none_left g p.count h.1 p.within)
  out_ends (Err faults.OutOfMemory) h p =
      car_then q.root told (λ store sections. HasResolved store q × IsFront q store sections) (λ store sections. HasResolved store q × IsFront q store sections)
      (Gives (giving_in [] g (into m a b))) (λ bytes. PutFront bytes (into m a c)) (λ store sections x. x)
      (λ bytes d. gave_front_out _ m a b c bytes [] g joins d p) h
  out_ends (Err (faults.Resolve fault)) h p = absurd h
  out_ends (Err (faults.Pack fault)) h p = absurd h

-- ---- a path that leads nowhere

pub path_ends : (out : Output) (q : QueryParts) (told : Option Store) (fault : ResolveFault) → PutNothing out → ((store : Store) → told ≡ Some store → IsResolvedTo store q.root q.path (Err fault))
    → CarEnds q told out (Err (fault_of_path fault))
path_ends out q told refusals.NoRoot nothing h = (nothing, told_each told (λ store. IsResolvedTo store q.root q.path (Err refusals.NoRoot)) h)
path_ends out q told (refusals.NotThere i) nothing h = (nothing, told_each told (λ store. IsResolvedTo store q.root q.path (Err (refusals.NotThere i))) h)
path_ends out q told (refusals.NotFolder i) nothing h = (nothing, told_each told (λ store. IsResolvedTo store q.root q.path (Err (refusals.NotFolder i))) h)
path_ends out q told (refusals.BadBlock cid fault) nothing h = (nothing, told_each told (λ store. IsResolvedTo store q.root q.path (Err (refusals.BadBlock cid fault))) h)
path_ends out q told (refusals.Gone cid) nothing h = (nothing, told_each told (λ store. IsResolvedTo store q.root q.path (Err (refusals.Gone cid))) h)
path_ends out q told (refusals.Store (store_faults.Changed want got)) nothing h = (nothing, told_each told (λ store. IsResolvedTo store q.root q.path (Err (refusals.Store (store_faults.Changed want got)))) h)
path_ends out q told (refusals.Store store_faults.Failed) nothing h = (nothing, told_each told (λ store. IsResolvedTo store q.root q.path (Err (refusals.Store store_faults.Failed))) h)
path_ends out q told (refusals.Store store_faults.OutOfMemory) nothing h = inl nothing
path_ends out q told refusals.OutOfMemory nothing h = inl nothing

pub path_memory : (fault : ResolveFault) → HasOwnMemory (Err (fault_of_path fault))
path_memory refusals.NoRoot = tt
path_memory (refusals.NotThere i) = tt
path_memory (refusals.NotFolder i) = tt
path_memory (refusals.BadBlock cid fault) = tt
path_memory (refusals.Gone cid) = tt
path_memory (refusals.Store (store_faults.Changed want got)) = tt
path_memory (refusals.Store store_faults.Failed) = tt
path_memory (refusals.Store store_faults.OutOfMemory) = tt
path_memory refusals.OutOfMemory = tt

pub path_leads : (q : QueryParts) (told : Option Store) (root : CidParts) (path : List (List ℕ)) (fault : ResolveFault) → root ≡ q.root → path ≡ q.path
    → ((store : Store) → told ≡ Some store → IsResolvedTo store root path (Err fault)) → (store : Store) → told ≡ Some store → IsResolvedTo store q.root q.path (Err fault)
path_leads q told root path fault e f leads store is =
    subst (λ (r : CidParts). IsResolvedTo store r q.path (Err fault)) e (subst (λ (p : List (List ℕ)). IsResolvedTo store root p (Err fault)) f (leads store is))
