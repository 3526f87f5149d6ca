-- The traversal of a DAG for a query: the places that are opened, in preorder and in the order of the links, with the
-- text that they give and the entries that are met (Trustless Gateway specification: dag-scope, entity-bytes, order
-- dfs).
use Rattle.tg_model.specs.declared.queries.Form.TheVariants as forms
use Rattle.tg_model.specs.declared.queries.Scope.TheVariants as scopes
use Rattle.tg_bytes.specs.Ascii.{line_feed, slash}
use Rattle.std.specs.List.{list_any}
use Rattle.std.specs.Prelude.{Bool, List, None, Option, Some, [], drop, false, filter, if◌then◌else◌, length, map, nat_lt}
use Rattle.std.specs.Prelude.{not, take, true, ℕ, ◌&&◌, ◌++◌, ◌+◌, ◌-◌, ◌||◌, ◌∷◌}
use Rattle.tg_cid.specs.Cid.{CidParts}
use Rattle.tg_cid.specs.CodeLaws.{same_cid}
use Rattle.tg_cid.specs.declared.cid.HashKind.{HashKind}
use Rattle.tg_cid.specs.declared.cid.HashKind.TheVariants.{Identity, Sha256}
use Rattle.tg_model.specs.ByteRanges.{high_of, low_of}
use Rattle.tg_model.specs.Dag.{Dag, Children, Section, bare, with_child, no_child, node, total_of, unopened}
use Rattle.tg_model.specs.PathWalk.{PathEnd, Spot, Stop, TraversalEnd, bad_block, child_below, gone, not_reached}
use Rattle.tg_model.specs.PathWalk.{path_walk, spot_at, stopped, terminal, whole}
use Rattle.tg_model.specs.Queries.{QueryParts, SpanParts}
use Rattle.tg_model.specs.Sound.{Position, child, part, position_fault, top}
use Rattle.tg_model.specs.Texts.{Named, dir_line, file_line, joined, link_line}
use Rattle.tg_model.specs.declared.fault.BlockFault.{BlockFault}
use Rattle.tg_model.specs.declared.kinds.Kind.{Kind}
use Rattle.tg_model.specs.declared.kinds.Kind.TheVariants.{Basic, File, Raw, Shard, Symlink}
use Rattle.tg_model.specs.declared.kinds.Part.{Part}
use Rattle.tg_model.specs.declared.kinds.Slot.{Slot}
use Rattle.tg_model.specs.declared.queries.Form.{Form}
use Rattle.tg_model.specs.declared.queries.Scope.{Scope}

-- a place of a traversal: the section that is opened there, and how many blocks there are from the root to it, both
-- counted
pub record Place : Type 0 where
  pub section : Section
  pub depth : ℕ

-- an entry of a directory that is listed or bundled, and the directory's path; a listed directory has the empty one
pub record ListedEntry : Type 0 where
  pub directory : List ℕ
  pub name : List ℕ
  pub cid : CidParts

-- the name and the CID of an entry that is met
abbrev pub named_met : ListedEntry → Named
named_met m = record { name = m.name; cid = m.cid }

-- what a traversal gives, in order, and how it ends
pub record Traversal : Type 0 where
  pub places : List Place
  pub text : List ℕ
  pub met : List ListedEntry
  pub end : TraversalEnd

-- a traversal that stops at once
abbrev pub ended : Stop → Traversal
ended stop = record { places = []; text = []; met = []; end = stopped stop }

-- traversals that come through and give just a text, just entries, or just a place and a text
abbrev pub giving_text : List ℕ → Traversal
giving_text text = record { places = []; text = text; met = []; end = whole }

abbrev pub giving_entries : List ListedEntry → Traversal
giving_entries met = record { places = []; text = []; met = met; end = whole }

abbrev pub giving_place : Place → List ℕ → Traversal
giving_place p text = record { places = p ∷ []; text = text; met = []; end = whole }

-- one traversal, and behind it another where the first came through
abbrev pub after_end : TraversalEnd → Traversal → Traversal → Traversal
after_end whole a b =
    record { places = a.places ++ b.places; text = a.text ++ b.text; met = a.met ++ b.met; end = b.end }
after_end (stopped stop) a b = a

abbrev pub and_then : Traversal → Traversal → Traversal
and_then a b = after_end a.end a b

-- what is asked of a node: all below a directory, as records of a bundle under this path; a file's content or a
-- symbolic link's target; the content from a byte up to another, counted from the node's first; or a directory's
-- entries
pub data Reach : Type 0 where
  bundled : List ℕ → Reach
  entire : Reach
  ranged : ℕ → ℕ → Reach
  listed : Reach

-- the bytes from low up to high
abbrev pub between : ℕ → ℕ → List ℕ → List ℕ
between low high xs = take (high - low) (drop low xs)

-- the text that a node gives before its children
abbrev pub record_line : Position → Section → Kind → List ℕ → List ℕ
record_line position section Raw path = file_line (total_of section Raw) path
record_line position section (File inline filesize parts) path = file_line (total_of section (File inline filesize parts)) path
record_line position section (Basic entries) path = dir_line path
record_line top section (Shard slots) path = dir_line path
record_line (part size) section (Shard slots) path = dir_line path
record_line (child above) section (Shard slots) path = []
record_line position section (Symlink target) path = link_line (length target) path

-- what a block says itself
abbrev pub own_text : Section → Kind → List ℕ
own_text section Raw = section.block
own_text section (File inline filesize parts) = inline
own_text section (Basic entries) = []
own_text section (Shard slots) = []
own_text section (Symlink target) = target

abbrev pub text_before : Reach → Position → Section → Kind → List ℕ
text_before (bundled path) position section kind = record_line position section kind path ++ own_text section kind
text_before entire position section kind = own_text section kind
text_before (ranged low high) position section kind = between low high (own_text section kind)
text_before listed position section kind = []

-- and behind them: a line feed behind a bundled content or target
abbrev pub line_end : Kind → List ℕ
line_end Raw = line_feed ∷ []
line_end (File inline filesize parts) = line_feed ∷ []
line_end (Basic entries) = []
line_end (Shard slots) = []
line_end (Symlink target) = line_feed ∷ []

abbrev pub text_behind : Reach → Kind → List ℕ
text_behind (bundled path) kind = line_end kind
text_behind entire kind = []
text_behind (ranged low high) kind = []
text_behind listed kind = []

-- what is done at a link: the entries that are met there, and what is asked of the child and where it stands, if it is
-- opened
pub record Visit : Type 0 where
  pub met : List ListedEntry
  pub into : Option (Reach × Position)

-- nothing
abbrev pub passed_over : Visit
passed_over = record { met = []; into = None }

-- a part that begins at `from` has a length, and the range meets its bytes
abbrev pub is_met : ℕ → ℕ → ℕ → ℕ → Bool
is_met low high from size = nat_lt 0 size && (nat_lt low high && (nat_lt from high && nat_lt low (from + size)))

-- the parts that a range meets are opened
abbrev pub part_visits : ℕ → ℕ → ℕ → List Part → List Visit
part_visits low high from [] = []
part_visits low high from (p ∷ parts) =
    (if is_met low high from p.size
    then record { met = []; into = Some (ranged (low - from) (high - from), part p.size) }
    else passed_over) ∷ part_visits low high (from + p.size) parts

-- what is done at the parts of a file behind its inline bytes
abbrev pub file_visits : Reach → List ℕ → List Part → List Visit
file_visits (bundled path) inline parts = map (λ p. record { met = []; into = Some (entire, part p.size) }) parts
file_visits entire inline parts = map (λ p. record { met = []; into = Some (entire, part p.size) }) parts
file_visits (ranged low high) inline parts = part_visits low high (length inline) parts
file_visits listed inline parts = map (λ p. passed_over) parts

-- an entry of a directory
abbrev pub entry_visit : Reach → List ℕ → CidParts → Visit
entry_visit (bundled path) name cid = record { met = record { directory = path; name = name; cid = cid } ∷ []; into = Some (bundled (joined path name), top) }
entry_visit entire name cid = passed_over
entry_visit (ranged low high) name cid = passed_over
entry_visit listed name cid = record { met = record { directory = []; name = name; cid = cid } ∷ []; into = None }

-- a child of a shard
abbrev pub child_visit : Reach → Position → ℕ → Visit
child_visit (bundled path) position slot = record { met = []; into = Some (bundled path, child_below position slot) }
child_visit entire position slot = passed_over
child_visit (ranged low high) position slot = passed_over
child_visit listed position slot = record { met = []; into = Some (listed, child_below position slot) }

-- a slot of a shard, which is an entry or a child
abbrev pub visit_by_name : Reach → Position → ℕ → CidParts → Option (List ℕ) → Visit
visit_by_name reach position number cid (Some name) = entry_visit reach name cid
visit_by_name reach position number cid None = child_visit reach position number

abbrev pub slot_visit : Reach → Position → Slot → Visit
slot_visit reach position slot = visit_by_name reach position slot.slot slot.cid slot.name

-- what is done at the links of a node
abbrev pub visits : Reach → Position → Kind → List Visit
visits reach position Raw = []
visits reach position (File inline filesize parts) = file_visits reach inline parts
visits reach position (Basic entries) = map (λ e. entry_visit reach e.name e.cid) entries
visits reach position (Shard slots) = map (slot_visit reach position) slots
visits reach position (Symlink target) = []

-- a traversal goes on where the node may stand there
abbrev pub unless_bad : Spot → Option BlockFault → Traversal → Traversal
unless_bad spot None t = t
unless_bad spot (Some fault) t = ended (bad_block spot fault)

-- a link is passed over, or its child is gone into
abbrev pub visited : (Reach → Position → Traversal) → Option (Reach × Position) → Traversal
visited inside None = giving_text []
visited inside (Some visit) = inside visit.0 visit.1

-- the traversal of a node and what is asked for below it; `depth` counts the blocks from the root to it
abbrev mutual
  pub traverse : Reach → Position → ℕ → Dag → Traversal
  traverse reach position depth (unopened cid) = ended (gone (spot_at cid depth position))
  traverse reach position depth (bare section None) = ended (gone (spot_at section.cid depth position))
  traverse reach position depth (bare section (Some fault)) =
      ended (bad_block (spot_at section.cid depth position) fault)
  traverse reach position depth (node section kind children) =
      unless_bad (spot_at section.cid depth position) (position_fault position kind)
      (and_then (giving_place (record { section = section; depth = depth }) (text_before reach position section kind))
      (and_then (traverse_children (visits reach position kind) (depth + 1) children) (giving_text (text_behind reach kind))))

  -- and of its children, as far as they are visited
  pub traverse_children : List Visit → ℕ → Children → Traversal
  traverse_children todo depth no_child = giving_text []
  traverse_children [] depth (with_child d children) = giving_text []
  traverse_children (visit ∷ todo) depth (with_child d children) =
      and_then (giving_entries visit.met)
      (and_then (visited (λ reach position. traverse reach position depth d) visit.into) (traverse_children todo depth children))

-- what is asked of a terminal by scope, range and kind: a range is ignored where it isn't a file
abbrev pub file_reach : Option SpanParts → ℕ → Reach
file_reach None total = entire
file_reach (Some span) total = ranged (low_of span.from total) (high_of span.to total)

abbrev pub entity_reach : Option SpanParts → Section → Kind → Reach
entity_reach span section Raw = file_reach span (total_of section Raw)
entity_reach span section (File inline filesize parts) = file_reach span (total_of section (File inline filesize parts))
entity_reach span section (Basic entries) = listed
entity_reach span section (Shard slots) = listed
entity_reach span section (Symlink target) = entire

-- what scope all asks of a terminal
abbrev pub all_reach : Kind → Reach
all_reach Raw = entire
all_reach (File inline filesize parts) = entire
all_reach (Basic entries) = bundled (slash ∷ [])
all_reach (Shard slots) = bundled (slash ∷ [])
all_reach (Symlink target) = entire

-- the terminal alone, whatever it is read as
abbrev pub block_alone : ℕ → Dag → Traversal
block_alone depth (unopened cid) = ended (gone (spot_at cid depth top))
block_alone depth (bare section fault) = giving_place (record { section = section; depth = depth }) section.block
block_alone depth (node section kind children) =
    giving_place (record { section = section; depth = depth }) section.block

-- a terminal with a kind, or one without
abbrev pub kind_reach : (Section → Kind → Reach) → Dag → Reach
kind_reach reach (unopened cid) = entire
kind_reach reach (bare section fault) = entire
kind_reach reach (node section kind children) = reach section kind

-- the traversal of a terminal
abbrev pub at_terminal : Scope → Option SpanParts → ℕ → Dag → Traversal
at_terminal scopes.Block span depth d = block_alone depth d
at_terminal scopes.Entity span depth d = traverse (kind_reach (entity_reach span) d) top depth d
at_terminal scopes.All span depth d = traverse (kind_reach (λ section kind. all_reach kind) d) top depth d

-- the places of a path walk, each one block deeper
abbrev pub walk_places : ℕ → List Section → List Place
walk_places depth [] = []
walk_places depth (section ∷ sections) = record { section = section; depth = depth } ∷ walk_places (depth + 1) sections

-- the traversal from the end of a path walk on
abbrev pub from_end : PathEnd → Scope → Option SpanParts → ℕ → Traversal
from_end (terminal d) scope span depth = at_terminal scope span depth d
from_end (not_reached stop) scope span depth = ended stop

-- the path walk, and then what is asked for at its terminal
abbrev pub traversal : QueryParts → Dag → Traversal
traversal q d =
    let walk = path_walk q.path d in
    let below = from_end walk.end q.scope q.span (length walk.sections + 1) in
    record { places = walk_places 1 walk.sections ++ below.places; text = below.text; met = below.met; end = below.end }

-- the sections of places, repeats with them
abbrev pub sections_of : List Place → List Section
sections_of places = map (λ p. p.section) places

-- one of the sections stands under the CID
abbrev pub has_cid : CidParts → List Section → Bool
has_cid cid sections = list_any (λ section. same_cid cid section.cid) sections

-- of sections behind others the first under each CID that none of the others has
abbrev pub first_behind : List Section → List Section → List Section
first_behind before [] = []
first_behind before (section ∷ sections) =
    let behind = first_behind (before ++ section ∷ []) sections in
    if has_cid section.cid before then behind else section ∷ behind

-- a query for a raw block
abbrev pub is_raw : Form → Bool
is_raw forms.Raw = true
is_raw forms.Car = false

-- a CID with sha2-256
abbrev pub is_hashed : HashKind → Bool
is_hashed Sha256 = true
is_hashed Identity = false

-- whether a section under the CID is asked for: under an identity CID none is, whose block is its digest, but for the
-- root of a query for a raw block
abbrev pub is_asked : QueryParts → CidParts → Bool
is_asked q cid = is_raw q.form || is_hashed cid.hash

-- the sections that are asked for
abbrev pub asked : QueryParts → List Section → List Section
asked q sections = filter (λ section. is_asked q section.cid) sections

-- and of these the ones that are sent: each where repeats are, and else the first under each CID
abbrev pub unrepeated : Bool → List Section → List Section
unrepeated true sections = sections
unrepeated false sections = first_behind [] sections

abbrev pub sent : QueryParts → List Section → List Section
sent q sections = unrepeated q.dups (asked q sections)

-- a section under the CID is sent behind these
abbrev pub is_sent_behind : QueryParts → List Section → CidParts → Bool
is_sent_behind q before cid = is_asked q cid && (q.dups || not (has_cid cid before))

-- the opened sections, repeats with them
abbrev pub opened_list : QueryParts → Dag → List Section
opened_list q d = sections_of (traversal q d).places

-- the sections that are sent, in order
abbrev pub block_list : QueryParts → Dag → List Section
block_list q d = sent q (opened_list q d)
