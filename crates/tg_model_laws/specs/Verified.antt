-- What a verifier stands for that has taken these sections: the partial DAG that they open, and what is left beside
-- each DAG that opens with them.
use Rattle.tg_model.specs.declared.queries.Scope.TheVariants as scopes
use Rattle.std.specs.Prelude.{Bool, Contains, List, [], map, true, false, ℕ, ⊤, ◌++◌, ◌∷◌, ◌≡◌, ◌⊎◌}
use Rattle.tg_cid.specs.Cid.{CidParts}
use Rattle.tg_cid.specs.Names.{Names}
use Rattle.tg_cid.specs.declared.cid.HashKind.TheVariants.{Identity}
use Rattle.tg_model.specs.Dag.{Dag, Section, links_of, root_cid}
use Rattle.tg_model.specs.Fits.{CollisionPair, Fits, HasOneBlockEach, IfOnce, IsInProgress, IsOpenedFor, output_so_far}
use Rattle.tg_model.specs.PathWalk.{Spot, gone, stopped, whole}
use Rattle.tg_model.specs.Queries.{QueryParts}
use Rattle.tg_model.specs.Sound.{IsChecked, IsSound}
use Rattle.tg_model.specs.Texts.{listing}
use Rattle.tg_model.specs.Traversal.{ListedEntry, block_list, is_sent_behind, named_met, opened_list, sent, traversal}
use Rattle.tg_model_laws.specs.Openings.{IsSettledAt}
use Rattle.tg_model_laws.specs.SentSections.{taken_as}
use Rattle.tg_model.specs.declared.kinds.Kind.{Kind}
use Rattle.tg_model.specs.declared.queries.Scope.{Scope}
use Rattle.tg_model_laws.specs.BesideSound.{IsBeside, Passes}
use Rattle.tg_model_laws.specs.TakenBlocks.{IsReadAt, Opening, opened_by}
use Rattle.tg_model_laws.specs.Stages.{Given, ending, nothing_given, up_to_next, with_place}
use Rattle.tg_model_laws.specs.Tasks.{Miss, Task, Want, is_read_at, open_block, position_of, spot_of, start}
use Rattle.tg_model_laws.specs.Tasks.{stop_at, stop_of, tasks_of, tasks_then, text_at}

-- its CID is an identity CID, and its block is its digest
abbrev pub IsOwnBlock : Section → Type 0
IsOwnBlock section = (section.cid.hash ≡ Identity) × (section.block ≡ section.cid.digest)

-- the section is one of these, or its block is its CID's digest
abbrev pub IsHad : List Section → Section → Type 0
IsHad sections section = Contains sections section ⊎ IsOwnBlock section

-- what is known of a block at a place: of a section that isn't sent behind these the block is had
abbrev pub IsKnownIf : Bool → List Section → Section → Type 0
IsKnownIf true sections section = ⊤
IsKnownIf false sections section = IsHad sections section

abbrev pub IsKnown : QueryParts → List Section → Section → Type 0
IsKnown q sections section = IsKnownIf (is_sent_behind q sections section.cid) sections section

-- where a block is wanted next, one under its CID is sent behind the sections
abbrev pub AreSettled : QueryParts → List Section → List (Task CidParts) → Type 0
AreSettled q sections tasks = (w : Want) (cid : CidParts) (more : List (Task CidParts)) → tasks_then tasks ≡ open_block w cid ∷ more → is_sent_behind q sections cid ≡ true

-- a checked DAG of the query's root, with one block under each CID where each is sent once, whose traversal came through
-- or stopped where a block is sent
pub record IsOther (q : QueryParts) (d : Dag) : Type 0 where
  pub checked : IsChecked d
  pub root : root_cid d ≡ q.root
  pub one_each : IfOnce q.dups (HasOneBlockEach (opened_list q d))
  pub settled : IsSettledAt q (block_list q d) (traversal q d).end

-- the sections were sent, of the places that were opened; each opened block was received, or is its CID's digest; these
-- tasks are left, of the partial DAG and beside each checked DAG of the query's root that opens with the same blocks;
-- and a DAG whose sections begin with these opens with these blocks
pub record Verified (q : QueryParts) (sections : List Section) (given : Given) (tasks : List (Task CidParts)) : Type 0 where
  pub sent_are : sent q (opened_by given) ≡ sections
  pub received : (section : Section) → Contains (opened_by given) section → IsHad sections section
  pub one_each : IfOnce q.dups (HasOneBlockEach (opened_by given))
  pub opening : Opening q given tasks
  pub beside : (d : Dag) (rest : List Section) → IsChecked d → root_cid d ≡ q.root
      → opened_list q d ≡ opened_by given ++ rest → IsBeside q d given tasks
  pub opens : (d : Dag) (rest : List Section) → IsOther q d → block_list q d ≡ sections ++ rest
      → (more : List Section) × (opened_list q d ≡ opened_by given ++ more)

-- what is written at the end behind the text that was given: the listing of the entries that were met, where an entity
-- is asked for
abbrev pub listing_at_end : Scope → List ListedEntry → List ℕ
listing_at_end scopes.Block met = []
listing_at_end scopes.Entity met = listing (map named_met met)
listing_at_end scopes.All met = []

abbrev pub written_whole : QueryParts → Given → List ℕ
written_whole q given = given.text ++ listing_at_end q.scope given.met

-- ---- what may be said of the sections

-- they are in progress, a block is wanted for the spot, and the text that was given is written
pub record GoesOn (q : QueryParts) (sections : List Section) (given : Given) (wanted : Spot) : Type 0 where
  pub s : Dag
  pub progress : IsInProgress s q sections wanted
  pub gives : traversal q s ≡ ending given (stopped (gone wanted))
  pub output : output_so_far q s ≡ given.text

-- they fit, and all is written
pub record IsAccepted (q : QueryParts) (sections : List Section) (given : Given) : Type 0 where
  pub s : Dag
  pub fits : Fits s q sections (written_whole q given)
  pub gives : traversal q s ≡ ending given whole
  pub output : output_so_far q s ≡ written_whole q given

-- they open a DAG in which a segment of the path leads nowhere: before it no text is given
pub record LeadsNowhere (q : QueryParts) (sections : List Section) (given : Given) (miss : Miss) : Type 0 where
  pub s : Dag
  pub right : IsOpenedFor s q
  pub list : block_list q s ≡ sections
  pub gives : traversal q s ≡ ending given (stopped (stop_of miss))
  pub output : output_so_far q s ≡ given.text
  pub nothing : given.text ≡ []

-- the section's CID is wanted next, and it passes there
pub record WantsNext (q : QueryParts) (tasks : List (Task CidParts)) (section : Section) : Type 0 where
  pub want : Want
  pub more : List (Task CidParts)
  pub then_is : tasks_then tasks ≡ open_block want section.cid ∷ more
  pub passes : Passes q want section

-- a block is wanted for the spot
pub record WantsAt (tasks : List (Task CidParts)) (spot : Spot) : Type 0 where
  pub want : Want
  pub cid : CidParts
  pub more : List (Task CidParts)
  pub then_is : tasks_then tasks ≡ open_block want cid ∷ more
  pub spot_is : spot_of want cid ≡ spot

-- how tasks go on: none is left, a block is wanted, or a segment leads nowhere
pub data Then (tasks : List (Task CidParts)) : Type 0 where
  then_none : tasks_then tasks ≡ [] → Then tasks
  then_block : (w : Want) (cid : CidParts) (more : List (Task CidParts)) → tasks_then tasks ≡ open_block w cid ∷ more
      → Then tasks
  then_stop : (miss : Miss) (more : List (Task CidParts)) → tasks_then tasks ≡ stop_at miss ∷ more → Then tasks

-- ---- from section to section

abbrev pub VerifiedStarts : Type 0
VerifiedStarts = (q : QueryParts) → Verified q [] nothing_given (start q q.root)

abbrev pub VerifiedGives : Type 0
VerifiedGives = (q : QueryParts) (sections : List Section) (given : Given) (tasks : List (Task CidParts)) → Verified q sections given tasks
    → Verified q sections (up_to_next tasks given) (tasks_then tasks)

-- a block that passes is taken: a section that is sent behind the others, or else one that is had
abbrev pub VerifiedTakes : Type 0
VerifiedTakes = (q : QueryParts) (sections : List Section) (given : Given) (w : Want) (section : Section) (kind : Kind) (tasks : List (Task CidParts)) → IsKnown q sections section
    → is_read_at q w ≡ true → IsReadAt (position_of w) section kind → Verified q sections given (open_block w section.cid ∷ tasks)
    → Verified q (taken_as q sections section) (with_place w section (text_at q w section kind) given) (tasks_of q w section kind (links_of kind) ++ tasks)

abbrev pub VerifiedTakesAlone : Type 0
VerifiedTakesAlone = (q : QueryParts) (sections : List Section) (given : Given) (w : Want) (section : Section) (tasks : List (Task CidParts)) → IsKnown q sections section
    → is_read_at q w ≡ false → Names section.cid section.block → Verified q sections given (open_block w section.cid ∷ tasks)
    → Verified q (taken_as q sections section) (with_place w section section.block given) tasks

-- ---- what the sections are

abbrev pub VerifiedGoesOn : Type 0
VerifiedGoesOn = (q : QueryParts) (sections : List Section) (given : Given) (w : Want) (cid : CidParts) (tasks : List (Task CidParts))
    → is_sent_behind q sections cid ≡ true → Verified q sections given (open_block w cid ∷ tasks)
    → GoesOn q sections given (spot_of w cid)

abbrev pub VerifiedFits : Type 0
VerifiedFits = (q : QueryParts) (sections : List Section) (given : Given) → Verified q sections given [] → IsAccepted q sections given

abbrev pub VerifiedMisses : Type 0
VerifiedMisses = (q : QueryParts) (sections : List Section) (given : Given) (miss : Miss) (tasks : List (Task CidParts)) → Verified q sections given (stop_at miss ∷ tasks)
    → LeadsNowhere q sections given miss

-- ---- beside each sound DAG of the query's root

-- what was given is what its traversal gives, or there is a collision pair
abbrev pub VerifiedBeside : Type 0
VerifiedBeside = (q : QueryParts) (d : Dag) (sections : List Section) (given : Given) (tasks : List (Task CidParts)) → IsSound d → root_cid d ≡ q.root
    → Verified q sections given tasks → IsBeside q d given tasks ⊎ CollisionPair sections d

-- a block of the wanted CID that isn't read, can't stand there or has wrong sizes makes one, received now or before
abbrev pub VerifiedRefuses : Type 0
VerifiedRefuses = (q : QueryParts) (d : Dag) (sections : List Section) (given : Given) (w : Want) (section : Section) (tasks : List (Task CidParts)) → IsSound d → root_cid d ≡ q.root
    → IsKnown q sections section → Names section.cid section.block → ((kind : Kind) → IsReadAt (position_of w) section kind → ⊥)
    → Verified q sections given (open_block w section.cid ∷ tasks) → CollisionPair (taken_as q sections section) d

-- ---- sections that fit, or are in progress, are taken one by one

-- where a block is wanted that is sent, the next section passes
abbrev pub FittingPasses : Type 0
FittingPasses = (q : QueryParts) (d : Dag) (front rest : List Section) (next : Section) (out : List ℕ) (given : Given) (tasks : List (Task CidParts)) → AreSettled q front tasks
    → Fits d q (front ++ next ∷ rest) out → Verified q front given tasks → WantsNext q tasks next

abbrev pub InProgressPasses : Type 0
InProgressPasses = (q : QueryParts) (d : Dag) (front rest : List Section) (next : Section) (wanted : Spot) (given : Given) (tasks : List (Task CidParts)) → AreSettled q front tasks
    → IsInProgress d q (front ++ next ∷ rest) wanted → Verified q front given tasks → WantsNext q tasks next

-- and where one is wanted that isn't sent, the block that was received, or that is its CID's digest, passes
abbrev pub FittingPassesAgain : Type 0
FittingPassesAgain = (q : QueryParts) (d : Dag) (front rest : List Section) (known : Section) (out : List ℕ) (given : Given) (w : Want) (more tasks : List (Task CidParts))
    → tasks_then tasks ≡ open_block w known.cid ∷ more → is_sent_behind q front known.cid ≡ false → IsHad front known
    → Fits d q (front ++ rest) out → Verified q front given tasks → Passes q w known

abbrev pub InProgressPassesAgain : Type 0
InProgressPassesAgain = (q : QueryParts) (d : Dag) (front rest : List Section) (known : Section) (wanted : Spot) (given : Given) (w : Want) (more tasks : List (Task CidParts))
    → tasks_then tasks ≡ open_block w known.cid ∷ more → is_sent_behind q front known.cid ≡ false → IsHad front known
    → IsInProgress d q (front ++ rest) wanted → Verified q front given tasks → Passes q w known

-- once all were taken, what fits is accepted, with its text
abbrev pub FittingEnds : Type 0
FittingEnds = (q : QueryParts) (d : Dag) (sections : List Section) (out : List ℕ) (given : Given) (tasks : List (Task CidParts)) → AreSettled q sections tasks
    → Fits d q sections out → Verified q sections given tasks → (tasks_then tasks ≡ []) × (out ≡ written_whole q (up_to_next tasks given))

-- and for what is in progress the block is wanted
abbrev pub InProgressEnds : Type 0
InProgressEnds = (q : QueryParts) (d : Dag) (sections : List Section) (wanted : Spot) (given : Given) (tasks : List (Task CidParts)) → AreSettled q sections tasks
    → IsInProgress d q sections wanted → Verified q sections given tasks → WantsAt tasks wanted × (output_so_far q d ≡ (up_to_next tasks given).text)

-- ---- so are sections that open a DAG in which a segment of the path leads nowhere

abbrev pub NowherePasses : Type 0
NowherePasses = (q : QueryParts) (d : Dag) (front rest : List Section) (next : Section) (miss : Miss) (given : Given) (tasks : List (Task CidParts)) → AreSettled q front tasks
    → IsOpenedFor d q → block_list q d ≡ front ++ next ∷ rest → (traversal q d).end ≡ stopped (stop_of miss)
    → Verified q front given tasks → WantsNext q tasks next

abbrev pub NowherePassesAgain : Type 0
NowherePassesAgain = (q : QueryParts) (d : Dag) (front rest : List Section) (known : Section) (miss : Miss) (given : Given) (w : Want) (more tasks : List (Task CidParts))
    → tasks_then tasks ≡ open_block w known.cid ∷ more → is_sent_behind q front known.cid ≡ false → IsHad front known
    → IsOpenedFor d q → block_list q d ≡ front ++ rest → (traversal q d).end ≡ stopped (stop_of miss)
    → Verified q front given tasks → Passes q w known

-- and once all were taken, the tasks stop at that segment
abbrev pub NowhereEnds : Type 0
NowhereEnds = (q : QueryParts) (d : Dag) (sections : List Section) (miss : Miss) (given : Given) (tasks : List (Task CidParts)) → AreSettled q sections tasks
    → IsOpenedFor d q → block_list q d ≡ sections → (traversal q d).end ≡ stopped (stop_of miss)
    → Verified q sections given tasks → (more : List (Task CidParts)) × (tasks_then tasks ≡ stop_at miss ∷ more)

-- ---- of tasks, and of lists of sections

abbrev pub EachGoesOn : Type 0
EachGoesOn = (tasks : List (Task CidParts)) → Then tasks

-- a collision pair of some sections is one of all that hold them
abbrev pub PairOfSome : Type 0
PairOfSome = (some sections : List Section) (d : Dag) → ((section : Section) → Contains some section → Contains sections section) → CollisionPair some d → CollisionPair sections d

-- a collision pair of some sections is one of all that hold those of them that aren't their CIDs' digests
abbrev pub PairOfHad : Type 0
PairOfHad = (some sections : List Section) (d : Dag) → ((section : Section) → Contains some section → IsHad sections section) → CollisionPair some d → CollisionPair sections d

-- all of these
pub record VerifiedLaws : Type 0 where
  pub start : VerifiedStarts
  pub up_to_next : VerifiedGives
  pub taken : VerifiedTakes
  pub alone : VerifiedTakesAlone
  pub goes : VerifiedGoesOn
  pub fits : VerifiedFits
  pub misses : VerifiedMisses
  pub beside : VerifiedBeside
  pub refused : VerifiedRefuses
  pub fitting : FittingPasses
  pub in_progress : InProgressPasses
  pub fitting_again : FittingPassesAgain
  pub in_progress_again : InProgressPassesAgain
  pub fitting_ends : FittingEnds
  pub in_progress_ends : InProgressEnds
  pub nowhere : NowherePasses
  pub nowhere_again : NowherePassesAgain
  pub nowhere_ends : NowhereEnds
  pub how_then : EachGoesOn
  pub pair_of_some : PairOfSome
  pub pair_had : PairOfHad
