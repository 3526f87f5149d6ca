-- The sections that a walk has given, each of which was given in a chunk or as it is, and why it gives no more.
use Rattle.std.proofs.Common.{All, Err, List, None, Ok, Option, Some, [], ap, append-nil, inl, inr, map, refl, subst}
use Rattle.std.proofs.Common.{sym, true, ℕ, ◌++◌, ◌∙◌, ◌∷◌, ◌≡◌, ◌≢◌, ◌⊎◌}
use Rattle.std.specs.Prelude.{IfErr, IfOk, Result, false}
use Rattle.std.specs.List.{flat_map}
use Rattle.std.proofs.lemmas.Grind.{flat_map-append}
use Rattle.std.proofs.lemmas.List.{map-append}
use Rattle.std.proofs.lemmas.List.Elements.{All-append, All-cons, All-nil}
use Rattle.tg_answering.specs.WalksSend.{DeepWalksSend, EndedWalksSend, WalksSendFronts}
use Rattle.tg_cid.specs.Cid.{CidParts}
use Rattle.tg_model.specs.Dag.{Section}
use Rattle.tg_model.specs.PathWalk.{TraversalEnd, bad_block, gone, not_folder, not_there, stopped, whole}
use Rattle.tg_model.specs.Queries.{QueryParts}
use Rattle.tg_model.specs.Stores.{Lookups, LookupsQuiet, Store}
use Rattle.tg_model.specs.Traversal.{is_asked}
use Rattle.tg_model.specs.declared.stores.BlocksFault.TheVariants as store_faults
use Rattle.tg_reply.specs.CarBytes.{section_bytes}
use Rattle.tg_reply.specs.Replies.{is_cut, is_cut_on_path}
use Rattle.tg_replying.specs.Bodies.{AreAllSent, AreSent, FailsIn, Gives, Giving, HasEndCause, HasSections}
use Rattle.tg_replying.specs.Bodies.{IsFrontSent, SectionsEnd, WalkGave, giving_in, part_bytes, sections_bytes}
use Rattle.tg_replying.specs.declared.fault.ReplyFault.{ReplyFault}
use Rattle.tg_replying.specs.declared.fault.ReplyFault.TheVariants as faults
use Rattle.tg_reply.specs.Shapes.{IsGood}
use Rattle.tg_streams.specs.Gathering.{Gave, gave_front, gave_gave, gave_nothing}
use Rattle.tg_streams.specs.Joining.{SinkJoins}
use Rattle.tg_streams.specs.Streams.{PutFront, SinkMeaning, into}
use Rattle.tg_model_laws.specs.StoreWalks.{section_of}
use Rattle.tg_walk.specs.Walks.{HasEnded, HasStepped, HasWalkCause, IsAskedFound, IsNamedFound, IsOnWalk, StandsBy}
use Rattle.tg_walk.specs.Walks.{StandsFor, WalkState, max_depth}
use Rattle.tg_walk.specs.declared.fault.WalkFault.{WalkFault}
use Rattle.tg_walk.specs.declared.fault.WalkFault.TheVariants as walks

-- ---- one section more

pub sections_more : (minor : ℕ) (sections : List Section) (section : Section)
    → sections_bytes minor (sections ++ section ∷ []) ≡ sections_bytes minor sections ++ part_bytes minor
    (section_bytes section)
sections_more minor sections section =
    ap (flat_map (part_bytes minor)) (map-append section_bytes sections (section ∷ []))
    ∙ flat_map-append (part_bytes minor) (map section_bytes sections) (section_bytes section ∷ [])
    ∙ ap (λ (last : List ℕ). sections_bytes minor sections ++ last) (append-nil
    (part_bytes minor (section_bytes section)))

good_then : (q : QueryParts) (sections : List Section) (cid : CidParts) (block : List ℕ)
    → IsNamedFound (Ok (Some (cid, block))) → is_asked q cid ≡ true
    → All (IsGood q) sections → All (IsGood q) (sections ++ section_of cid block ∷ [])
good_then q sections cid block named asks all =
    All-append (IsGood q) sections (section_of cid block ∷ []) all (All-cons (IsGood q) (section_of cid block) []
    (asks, named) (All-nil (IsGood q)))

-- told or not, one thing after another holds
pub sent_then : (told : Option Store) (holds after : Store → List Section → Type 0) (q : QueryParts)
    (old new : List Section)
    → ((store : Store) → told ≡ Some store → holds store old → after store new)
    → (All (IsGood q) old → All (IsGood q) new) → AreSent told holds q old → AreSent told after q new
sent_then None holds after q old new step all h = all h
sent_then (Some store) holds after q old new step all h = step store refl h

-- the same sections, of which another thing holds
pub retold : (told : Option Store) (holds after : Store → List Section → Type 0) (q : QueryParts)
    (done : List Section → Type 0)
    → ((store : Store) (sections : List Section) → told ≡ Some store → holds store sections → after store sections)
    → HasSections told holds q done → HasSections told after q done
retold told holds after q done step h = record {
  sections = h.sections;
  are = sent_then told holds after q h.sections h.sections (λ store e p. step store h.sections e p) (λ all. all) h.are;
  is_done = h.is_done;
}

-- and one section more
with_section : (told : Option Store) (holds after : Store → List Section → Type 0) (q : QueryParts)
    (done all : List Section → Type 0) (cid : CidParts) (block : List ℕ)
    → ((store : Store) (sections : List Section) → told ≡ Some store → holds store sections
    → after store (sections ++ section_of cid block ∷ []))
    → ((sections : List Section) → done sections → all (sections ++ section_of cid block ∷ []))
    → IsNamedFound (Ok (Some (cid, block))) → is_asked q cid ≡ true → HasSections told holds q done
    → HasSections told after q all
with_section told holds after q done all cid block step more named asks h = record {
  sections = h.sections ++ section_of cid block ∷ [];
  are = sent_then told holds after q h.sections (h.sections ++ section_of cid block ∷ [])
      (λ store e p. step store h.sections e p) (good_then q h.sections cid block named asks) h.are;
  is_done = more h.sections h.is_done;
}

-- ---- a walk that has given these sections

-- they were given
abbrev pub HasGiven : ℕ → QueryParts → Option Store → WalkState → Giving → Type 0
HasGiven minor q told state giving = HasSections told (λ store sections. StandsFor state store sections) q
    (λ sections. Gives giving (sections_bytes minor sections))

-- they are the first of what is sent
pub front_of : (fronts : WalksSendFronts) (q : QueryParts) (state : WalkState) (store : Store)
    (sections : List Section) → state.left.query ≡ q → state.refused ≡ None → StandsFor state store sections
    → IsFrontSent q store sections
front_of fronts q state store sections is_q none stands =
    let on : IsOnWalk max_depth state.left state.known store sections = subst
    (λ (refused : Option WalkFault). StandsBy refused max_depth state.left state.known store sections) none
    stands in
    subst (λ (q : QueryParts). IsFrontSent q store sections) is_q (fronts state.left state.known store sections on)

cause_of : (q : QueryParts) (state : WalkState) (store : Store) (sections : List Section) (fault : WalkFault)
    → state.left.query ≡ q → state.refused ≡ Some fault → StandsFor state store sections
    → HasWalkCause q store max_depth sections fault
cause_of q state store sections fault is_q some stands =
    subst (λ (q : QueryParts). HasWalkCause q store max_depth sections fault) is_q
    (subst (λ (refused : Option WalkFault). StandsBy refused max_depth state.left state.known store sections) some
    stands)

-- none was given yet
pub none_given : {S : Type 0} (m : SinkMeaning S) (a : S) (old : List ℕ) (minor : ℕ) (q : QueryParts)
    (told : Option Store) (state : WalkState) → m.wrote a a []
    → ((store : Store) → StandsFor state store []) → HasGiven minor q told state (giving_in m old old a a)
none_given m a old minor q None state rests stands = record {
  sections = [];
  are = All-nil (IsGood q);
  is_done = gave_nothing _ m a old rests;
}
none_given m a old minor q (Some store) state rests stands = record {
  sections = [];
  are = stands store;
  is_done = gave_nothing _ m a old rests;
}

-- a step of the walk, which is called over what the store tells now
abbrev pub HasNext : Option Store → WalkState → Result (Option (CidParts × List ℕ)) WalkFault → WalkState → Type 0
HasNext told state found new = (store : Store) (sections : List Section) → told ≡ Some store
    → StandsFor state store sections → HasStepped found new store sections

-- the walk gave a block, whose section was given
pub gives_section : {S : Type 0} (m : SinkMeaning S) (a b c : S) (g0 g1 g2 : List ℕ) (minor : ℕ) (q : QueryParts)
    (told now : Option Store) (state new : WalkState) (cid : CidParts) (block : List ℕ)
    → SinkJoins S m → now ≡ told → state.left.query ≡ q
    → HasNext now state (Ok (Some (cid, block))) new → IsNamedFound (Ok (Some (cid, block)))
    → IsAskedFound state.left.query (Ok (Some (cid, block)))
    → Gives (giving_in m g1 g2 b c) (part_bytes minor (section_bytes (section_of cid block)))
    → HasGiven minor q told state (giving_in m g0 g1 a b) → HasGiven minor q told new (giving_in m g0 g2 a c)
gives_section m a b c g0 g1 g2 minor q told now state new cid block joins e is_q next named asks gave h =
    with_section told (λ store sections. StandsFor state store sections)
    (λ store sections. StandsFor new store sections) q
    (λ sections. Gives (giving_in m g0 g1 a b) (sections_bytes minor sections))
    (λ sections. Gives (giving_in m g0 g2 a c) (sections_bytes minor sections)) cid block
    (λ store sections is stands. next store sections (e ∙ is) stands)
    (λ sections done. subst (λ (bytes : List ℕ). Gave bytes g0 g2 (into m a c))
    (sym (sections_more minor sections (section_of cid block)))
    (gave_gave _ m a b c (sections_bytes minor sections) (part_bytes minor (section_bytes (section_of cid block)))
    g0 g1 g2 joins done gave))
    named (subst (λ (q : QueryParts). is_asked q cid ≡ true) is_q asks) h

-- or out failed in it
pub fails_section : {S : Type 0} (m : SinkMeaning S) (a b c : S) (g0 g1 g2 : List ℕ) (fronts : WalksSendFronts)
    (minor : ℕ) (q : QueryParts) (told now : Option Store) (state new : WalkState)
    (cid : CidParts) (block : List ℕ)
    → SinkJoins S m → now ≡ told → state.left.query ≡ q → new.left.query ≡ q → new.refused ≡ None
    → HasNext now state (Ok (Some (cid, block))) new → IsNamedFound (Ok (Some (cid, block)))
    → IsAskedFound state.left.query (Ok (Some (cid, block)))
    → FailsIn (giving_in m g1 g2 b c) (part_bytes minor (section_bytes (section_of cid block)))
    → HasGiven minor q told state (giving_in m g0 g1 a b)
    → HasSections told (IsFrontSent q) q (λ sections. FailsIn (giving_in m g0 g2 a c) (sections_bytes minor sections))
fails_section m a b c g0 g1 g2 fronts minor q told now state new cid block joins e is_q is_new none next named asks
    fails h =
    with_section told (λ store sections. StandsFor state store sections) (IsFrontSent q) q
    (λ sections. Gives (giving_in m g0 g1 a b) (sections_bytes minor sections))
    (λ sections. FailsIn (giving_in m g0 g2 a c) (sections_bytes minor sections)) cid block
    (λ store sections is stands. front_of fronts q new store (sections ++ section_of cid block ∷ []) is_new none
    (next store sections (e ∙ is) stands))
    (λ sections done. subst (λ (bytes : List ℕ). PutFront (g0 ++ bytes) (into m a c))
    (sym (sections_more minor sections (section_of cid block)))
    (gave_front _ m a b c (sections_bytes minor sections) (part_bytes minor (section_bytes (section_of cid block)))
    g0 g1 joins done fails))
    named (subst (λ (q : QueryParts). is_asked q cid ≡ true) is_q asks) h

-- the walk isn't followed further
pub front_given : (fronts : WalksSendFronts) (minor : ℕ) (q : QueryParts) (told : Option Store) (state : WalkState)
    (giving : Giving) → state.left.query ≡ q → state.refused ≡ None
    → HasGiven minor q told state giving → HasSections told (IsFrontSent q) q (λ sections. Gives giving
    (sections_bytes minor sections))
front_given fronts minor q told state giving is_q none h =
    retold told (λ store sections. StandsFor state store sections) (IsFrontSent q) q
    (λ sections. Gives giving (sections_bytes minor sections))
    (λ store sections is stands. front_of fronts q state store sections is_q none stands) h

-- ---- the walk gave no more

-- a walk that ended gave all that is sent
all_sent : (ended : EndedWalksSend) (q : QueryParts) (store : Store) (sections : List Section) (end : TraversalEnd)
    → HasEnded q store max_depth sections end
    → AreAllSent true q (is_cut end) store sections × AreAllSent false q (is_cut_on_path end) store sections
all_sent ended q store sections end h =
    let sent = ended q store sections end h in
    (record { all = sent.0; cut_is = ap is_cut sent.1 }, record { all = sent.0; cut_is = ap is_cut_on_path sent.1 })

other_end : (ended : EndedWalksSend) (deep : DeepWalksSend) (q : QueryParts) (store : Store)
    (sections : List Section) (fault : WalkFault) → fault ≢ walks.OutOfMemory
    → HasWalkCause q store max_depth sections fault → IsFrontSent q store sections
    → WalkGave q (Some fault) store sections
other_end ended deep q store sections (walks.BadBlock cid fault) other (spot, e, d, h) front = all_sent ended q
    store sections (stopped (bad_block spot fault)) h
other_end ended deep q store sections (walks.Gone cid) other (spot, e, d, h) front = all_sent ended q store sections
    (stopped (gone spot)) h
other_end ended deep q store sections walks.TooDeep other h front =
    let sent = deep q store sections h in
    (record { all = sent.0; cut_is = sent.1 }, record { all = sent.0; cut_is = sent.2 })
other_end ended deep q store sections (walks.Store fault) other h front = front
other_end ended deep q store sections (walks.NotThere i) other h front = all_sent ended q store sections
    (stopped (not_there i)) h
other_end ended deep q store sections (walks.NotFolder i) other h front = all_sent ended q store sections
    (stopped (not_folder i)) h
other_end ended deep q store sections walks.OutOfMemory other h front = absurd (other refl)

pub all_given : (ended : EndedWalksSend) (minor : ℕ) (q : QueryParts) (told now : Option Store)
    (state new : WalkState) (giving : Giving) → now ≡ told → new.left.query ≡ q
    → HasNext now state (Ok None) new → HasGiven minor q told state giving
    → HasSections told (WalkGave q None) q (λ sections. Gives giving (sections_bytes minor sections))
all_given ended minor q told now state new giving e is_q next h =
    retold told (λ store sections. StandsFor state store sections) (WalkGave q None) q
    (λ sections. Gives giving (sections_bytes minor sections))
    (λ store sections is stands. all_sent ended q store sections whole
    (subst (λ (q : QueryParts). HasEnded q store max_depth sections whole) is_q
    (next store sections (e ∙ is) stands).1)) h

pub walk_ended : (ended : EndedWalksSend) (deep : DeepWalksSend) (fronts : WalksSendFronts) (minor : ℕ)
    (q : QueryParts) (told now : Option Store) (state new : WalkState) (giving : Giving) (fault : WalkFault)
    → now ≡ told → state.left.query ≡ q → state.refused ≡ None → new.left.query ≡ q → new.refused ≡ Some fault
    → HasNext now state (Err fault) new → HasGiven minor q told state giving → fault ≢ walks.OutOfMemory
    → HasSections told (WalkGave q (Some fault)) q (λ sections. Gives giving (sections_bytes minor sections))
walk_ended ended deep fronts minor q told now state new giving fault e is_q none is_new some next h other =
    retold told (λ store sections. StandsFor state store sections) (WalkGave q (Some fault)) q
    (λ sections. Gives giving (sections_bytes minor sections))
    (λ store sections is stands. other_end ended deep q store sections fault other
    (cause_of q new store sections fault is_new some (next store sections (e ∙ is) stands))
    (front_of fronts q state store sections is_q none stands)) h

-- want of memory, the walk's or the store's, counts no fault
abbrev pub IsOfMemory : WalkFault → Type 0
IsOfMemory fault = (fault ≡ walks.OutOfMemory) ⊎ (fault ≡ walks.Store store_faults.OutOfMemory)

memory_quiet : (told : Option Store) (lookups : Lookups) (fault : WalkFault) → IsOfMemory fault
    → HasEndCause told lookups (Some fault) → LookupsQuiet lookups
memory_quiet told lookups fault (inl is) cause =
    subst (λ (fault : WalkFault). HasEndCause told lookups (Some fault)) is cause
memory_quiet told lookups fault (inr is) cause =
    let of_store = subst (λ (fault : WalkFault). HasEndCause told lookups (Some fault)) is cause in
    of_store.1

-- the walk was refused, and says why unless memory was wanted
pub refused_ends : (minor : ℕ) (q : QueryParts) (told : Option Store) (lookups : Lookups) (giving : Giving)
    (fault : WalkFault) (result : Result (Option WalkFault) ReplyFault)
    → IfOk result (λ end. (end ≡ Some fault) × (fault ≢ walks.OutOfMemory))
    → IfErr result (λ error. error ≡ faults.OutOfMemory) → IfErr result (λ error. IsOfMemory fault)
    → HasEndCause told lookups (Some fault)
    → (fault ≢ walks.OutOfMemory
    → HasSections told (WalkGave q (Some fault)) q (λ sections. Gives giving (sections_bytes minor sections)))
    → HasSections told (IsFrontSent q) q (λ sections. Gives giving (sections_bytes minor sections))
    → SectionsEnd minor q told lookups giving result
refused_ends minor q told lookups giving fault (Ok end) why memory wanted cause given front = subst
    (λ (end : Option WalkFault). SectionsEnd minor q told lookups giving (Ok end)) (sym why.0) (given why.1, cause)
refused_ends minor q told lookups giving fault (Err error) why memory wanted cause given front = subst
    (λ (error : ReplyFault). SectionsEnd minor q told lookups giving (Err error)) (sym memory)
    (front, memory_quiet told lookups fault wanted cause)
