-- The body of a reply with a CAR, as a walk over a store gives its sections (RFC 9112, sections 6.3 and 7.1; Trustless Gateway
-- specification, CAR responses).
use Rattle.std.specs.List.{flat_map}
use Rattle.std.specs.Prelude.{All, Bool, Err, List, None, Ok, Option, Result, Some, [], false, if◌then◌else◌, map, true, ℕ, ⊤}
use Rattle.std.specs.Prelude.{◌++◌, ◌==◌, ◌≡◌}
use Rattle.tg_cid.specs.Cid.{CidParts}
use Rattle.tg_faults.specs.Faults.{Rose}
use Rattle.tg_faults.specs.declared.calls.Failed.{Failed}
use Rattle.tg_model.specs.Dag.{Section}
use Rattle.tg_model.specs.PathWalk.{TraversalEnd}
use Rattle.tg_model.specs.Queries.{QueryParts}
use Rattle.tg_model.specs.Stores.{IsCauseOf, Lookups, LookupsQuiet, Store}
use Rattle.tg_model.specs.Traversal.{traversal}
use Rattle.tg_answering.specs.WalksSend.{sections_sent}
use Rattle.tg_reply.specs.CarBytes.{car_parts, chunk_bytes, last_chunk, section_bytes}
use Rattle.tg_reply.specs.Replies.{framed_body, is_cut, is_cut_on_path, sent_dag}
use Rattle.tg_replying.specs.declared.fault.ReplyFault.{ReplyFault}
use Rattle.tg_replying.specs.declared.fault.ReplyFault.TheVariants as faults
use Rattle.tg_replying.specs.declared.body.BodyEnd.{BodyEnd}
use Rattle.tg_reply.specs.Shapes.{HasBroken, IsGood}
use Rattle.tg_streams.specs.Gathering.{Gave}
use Rattle.tg_streams.specs.Streams.{Output, PutFront, SinkMeaning, into}
use Rattle.tg_walk.specs.declared.fault.WalkFault.{WalkFault}
use Rattle.tg_walk.specs.declared.fault.WalkFault.TheVariants as walks

-- ---- what is given

-- what is gathered before and after, and out
pub record Giving : Type 1 where
  pub old : List ℕ
  pub new : List ℕ
  pub out : Output

-- these bytes were given, and no fault counted
abbrev pub Gives : Giving → List ℕ → Type 0
Gives giving bytes = Gave bytes giving.old giving.new giving.out

-- of what was gathered and of these bytes a front was put, and a fault counted
abbrev pub FailsIn : Giving → List ℕ → Type 0
FailsIn giving bytes = PutFront (giving.old ++ bytes) giving.out

abbrev pub giving_in : {S : Type 0} → SinkMeaning S → List ℕ → List ℕ → S → S → Giving
giving_in m gathered_old gathered_new old new = record { old = gathered_old; new = gathered_new; out = into m old new }

-- the bytes were given, or out failed in a front of them
abbrev pub GiveEnds : Giving → List ℕ → Result ⊤ Failed → Type 0
GiveEnds giving bytes (Ok done) = Gives giving bytes
GiveEnds giving bytes (Err fault) = FailsIn giving bytes

-- ---- framing

-- a part of a CAR in a chunk, or as it is to a request of HTTP/1.0
abbrev pub part_bytes : ℕ → List ℕ → List ℕ
part_bytes minor part = if minor == 0 then part else chunk_bytes part

-- the parts, without the end
abbrev pub parts_bytes : ℕ → List (List ℕ) → List ℕ
parts_bytes minor parts = flat_map (part_bytes minor) parts

-- the end: the last chunk, or none where the body is cut or goes on until the connection closes
abbrev pub end_bytes : ℕ → Bool → List ℕ
end_bytes minor cut = if minor == 0 then [] else (if cut then [] else last_chunk)

abbrev pub sections_bytes : ℕ → List Section → List ℕ
sections_bytes minor sections = parts_bytes minor (map section_bytes sections)

-- ---- sections over a store that is told or not

-- where no store tells which they are, each section is asked for and named by its CID
abbrev pub AreSent : Option Store → (Store → List Section → Type 0) → QueryParts → List Section → Type 0
AreSent (Some store) holds q sections = holds store sections
AreSent None holds q sections = All (IsGood q) sections

-- the first of the sections that a reply sends
abbrev pub IsFrontSent : QueryParts → Store → List Section → Type 0
IsFrontSent q store sections = (more : List Section) × (sections_sent store q ≡ sections ++ more)

-- whether a traversal that ends so leaves the body cut, by whether the path leads to a terminal
abbrev pub cut_of : Bool → TraversalEnd → Bool
cut_of true end = is_cut end
cut_of false end = is_cut_on_path end

abbrev pub is_cut_sent : Bool → QueryParts → Store → Bool
is_cut_sent found q store = cut_of found (traversal q (sent_dag store q.root)).end

-- whether the end of a walk leaves it cut
abbrev pub cut_by : Bool → Option WalkFault → Bool
cut_by found None = false
cut_by found (Some (walks.NotThere i)) = found
cut_by found (Some (walks.NotFolder i)) = found
cut_by found (Some (walks.BadBlock cid fault)) = true
cut_by found (Some (walks.Gone cid)) = true
cut_by found (Some walks.TooDeep) = true
cut_by found (Some (walks.Store fault)) = true
cut_by found (Some walks.OutOfMemory) = true

-- whether it is a fault of the store
abbrev pub is_of_store : Option WalkFault → Bool
is_of_store None = false
is_of_store (Some (walks.Store fault)) = true
is_of_store (Some (walks.NotThere i)) = false
is_of_store (Some (walks.NotFolder i)) = false
is_of_store (Some (walks.BadBlock cid fault)) = false
is_of_store (Some (walks.Gone cid)) = false
is_of_store (Some walks.TooDeep) = false
is_of_store (Some walks.OutOfMemory) = false

-- all sections that a reply sends, and whether its body is cut
pub record AreAllSent (found : Bool) (q : QueryParts) (cut : Bool) (store : Store) (sections : List Section) : Type 0 where
  pub all : sections_sent store q ≡ sections
  pub cut_is : is_cut_sent found q store ≡ cut

-- ---- the walk

-- why a walk gave no more: all that is sent was given; or the store failed, behind the first of it
abbrev pub WalkGave : QueryParts → Option WalkFault → Store → List Section → Type 0
WalkGave q (Some (walks.Store fault)) store sections = IsFrontSent q store sections
WalkGave q (Some walks.OutOfMemory) store sections = ⊥
WalkGave q end store sections = AreAllSent true q (cut_by true end) store sections × AreAllSent false q (cut_by false end) store sections

-- a fault of the store comes as it came; no other end hides one
abbrev pub HasEndCause : Option Store → Lookups → Option WalkFault → Type 0
HasEndCause told lookups (Some (walks.Store fault)) =
    (cid : CidParts) × IsCauseOf told cid lookups.faults_old lookups.faults_new fault
HasEndCause told lookups end = LookupsQuiet lookups

-- sections of which this holds, with which this was done
pub record HasSections (told : Option Store) (holds : Store → List Section → Type 0) (q : QueryParts) (done : List Section → Type 0) : Type 0 where
  pub sections : List Section
  pub are : AreSent told holds q sections
  pub is_done : done sections

-- how the sections of a walk end: they were given, and the walk gave no more; or out failed in the first of them; or
-- memory was wanted behind these, and no fault of the store was counted
abbrev pub SectionsEnd : ℕ → QueryParts → Option Store → Lookups → Giving → Result (Option WalkFault) ReplyFault → Type 0
SectionsEnd minor q told lookups giving (Ok end) =
    HasSections told (WalkGave q end) q (λ sections. Gives giving (sections_bytes minor sections)) × HasEndCause told lookups end
SectionsEnd minor q told lookups giving (Err faults.SinkFault) =
    HasSections told (IsFrontSent q) q (λ sections. FailsIn giving (sections_bytes minor sections))
SectionsEnd minor q told lookups giving (Err faults.OutOfMemory) =
    HasSections told (IsFrontSent q) q (λ sections. Gives giving (sections_bytes minor sections)) × LookupsQuiet lookups

-- ---- the body

-- the body of these sections
abbrev pub body_of : ℕ → QueryParts → Bool → List Section → List ℕ
body_of minor q cut sections = framed_body minor cut (car_parts q.root sections)

-- where the store failed these are the first of the sections that are sent, and else all of them
abbrev pub IsBodyFor : Bool → Bool → QueryParts → Bool → Store → List Section → Type 0
IsBodyFor true found q cut store sections = IsFrontSent q store sections
IsBodyFor false found q cut store sections = AreAllSent found q cut store sections

abbrev pub IsBodyOf : Bool → QueryParts → BodyEnd → Store → List Section → Type 0
IsBodyOf found q end store sections = IsBodyFor end.failed found q end.cut store sections

-- the store failed and counted it; or, where it tells nothing, a stored block may have changed, which isn't counted
abbrev pub BrokeOver : Option Store → Lookups → Type 0
BrokeOver (Some store) lookups = Rose lookups.faults_old lookups.faults_new
BrokeOver None lookups = HasBroken lookups.faults_old lookups.faults_new

-- where the store broke off, the body is cut; and else no fault of it was counted
abbrev pub HasCauseFor : Bool → Option Store → Lookups → Bool → Type 0
HasCauseFor true told lookups cut = (cut ≡ true) × BrokeOver told lookups
HasCauseFor false told lookups cut = LookupsQuiet lookups

abbrev pub HasBodyCause : Option Store → Lookups → BodyEnd → Type 0
HasBodyCause told lookups end = HasCauseFor end.failed told lookups end.cut

-- these bytes are a front of a body that may be sent
pub record IsFrontOfBody (minor : ℕ) (found : Bool) (q : QueryParts) (told : Option Store) (bytes : List ℕ) : Type 0 where
  pub cut : Bool
  pub sections : List Section
  pub are : AreSent told (AreAllSent found q cut) q sections
  pub rest : List ℕ
  pub whole : body_of minor q cut sections ≡ bytes ++ rest

-- bytes of which this holds, with which this was done
pub record HasFront (minor : ℕ) (found : Bool) (q : QueryParts) (told : Option Store) (done : List ℕ → Type 0) : Type 0 where
  pub bytes : List ℕ
  pub is_front : IsFrontOfBody minor found q told bytes
  pub is_done : done bytes

-- how a body ends: it was given; or out failed in a front of it; or memory was wanted behind one, and no fault of the
-- store was counted
abbrev pub BodyEnds : ℕ → Bool → QueryParts → Option Store → Lookups → Giving → Result BodyEnd ReplyFault → Type 0
BodyEnds minor found q told lookups giving (Ok end) =
    HasSections told (IsBodyOf found q end) q (λ sections. Gives giving (body_of minor q end.cut sections)) × HasBodyCause told lookups end
BodyEnds minor found q told lookups giving (Err faults.SinkFault) = HasFront minor found q told (FailsIn giving)
BodyEnds minor found q told lookups giving (Err faults.OutOfMemory) =
    HasFront minor found q told (Gives giving) × LookupsQuiet lookups
