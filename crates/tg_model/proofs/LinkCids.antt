-- The CIDs of a node's links, and that the parts of a node are bytes where its text is.
use Rattle.std.proofs.Common.{◌≡◌, ℕ, suc, ◌+◌, ◌-◌, ◌<◌, Option, Some, None, Result, Ok, Err, IfOk, sym, List, [], ◌∷◌, ◌++◌, length, drop, refl, ap, ap₂, subst}
use Rattle.std.specs.List.{AllByRecursion}
use Rattle.std.specs.Result.{result_ok}
use Rattle.std.specs.Prelude.{All, ◌==◌, ◌↔◌}
use Rattle.std.proofs.lemmas.Bool.{cond_both}
use Rattle.std.proofs.lemmas.List.Elements.{All-drop, All-take}
use Rattle.tg_cid.specs.Cid.{CidParts}
use Rattle.tg_cid.specs.Computed.{cid_of}
use Rattle.tg_cid.specs.Spelling.{CidBytes}
use Rattle.tg_cid.specs.declared.fault.CidFault.{CidFault}
use Rattle.tg_dagpb.specs.Node.{LinkTexts, NodeText}
use Rattle.tg_dagpb.specs.declared.Link.{Link}
use Rattle.tg_dagpb.specs.declared.Node.{Node}
use Rattle.tg_model.proofs.ComputedSteps.{after_ok, after_told, one_value}
use Rattle.tg_model.specs.Computed.{cid_or_fault, cids_from}
use Rattle.tg_model.specs.Reading.{AreCids}
use Rattle.tg_pbtable.specs.Values.{bytes_at, bytes_in}
use Rattle.tg_pbtable.specs.declared.table.Field.{Field}
use Rattle.tg_pbtable.specs.declared.table.Value.{Value}
use Rattle.tg_pbtable.specs.declared.table.Value.TheVariants.{Number, Place}

-- ---- bytes

-- each number is a byte
abbrev pub AreBytes : List ℕ → Type 0
AreBytes text = All (λ (b : ℕ). b < 256) text

-- the piece that one field names is bytes
bytes_step : (text : List ℕ) (v : Value) (rest : List (List ℕ)) → AreBytes text → AllByRecursion AreBytes rest → AllByRecursion AreBytes (bytes_in text v ++ rest)
bytes_step text (Number n) rest are more = more
bytes_step text (Place start end) rest are more = (
  All-take (λ (b : ℕ). b < 256) (end - start) (drop start text) (All-drop (λ (b : ℕ). b < 256) start text are),
  more,
)

-- the pieces of a text of bytes are bytes
pieces : (text : List ℕ) (number : ℕ) (fields : List Field) → AreBytes text → AllByRecursion AreBytes (bytes_at text number fields)
pieces text number [] are = tt
pieces text number (field ∷ fields) are =
    let rest = pieces text number fields are in
    cond_both (field.number == number) (bytes_in text field.value ++ bytes_at text number fields) (bytes_at text number fields) (λ pieces. AllByRecursion AreBytes pieces)
    (λ e. bytes_step text field.value (bytes_at text number fields) are rest) (λ e. rest)

-- the hash of each link is bytes
abbrev pub HaveByteHashes : List Link → Type 0
HaveByteHashes links = AllByRecursion (λ link. AreBytes link.hash) links

-- links of texts of bytes have hashes of bytes
hashes : (links : List Link) (texts : List (List ℕ)) → LinkTexts links texts → AllByRecursion AreBytes texts → HaveByteHashes links
hashes [] [] h are = tt
hashes (link ∷ links) (text ∷ texts) h are = (
  (subst (λ (ts : List (List ℕ)). AllByRecursion AreBytes ts) h.0.parts.hash (pieces text 1 h.0.fields are.0)).0,
  hashes links texts h.1 are.1,
)
hashes _ _ h are = absurd h

-- the links of a node of bytes do
pub node_hashes : (node : Node) (text : List ℕ) → AreBytes text → NodeText node text → HaveByteHashes node.links
node_hashes node text are h = hashes node.links (bytes_at text 2 h.fields) h.parts.links (pieces text 2 h.fields are)

-- and the data is
pub node_payload : (links : List Link) (payload text : List ℕ) → AreBytes text → NodeText (record { links = links; payload = Some payload }) text → AreBytes payload
node_payload links payload text are h =
    (subst (λ (ts : List (List ℕ)). AllByRecursion AreBytes ts) h.parts.payload (pieces text 1 h.fields are)).0

-- ---- CIDs

-- what the CIDs' crate says of the bytes of a CID
abbrev pub CidLaw : Type 0
CidLaw = (cid : CidParts) (bytes : List ℕ) → AreBytes bytes → CidBytes cid bytes ↔ (cid_of bytes ≡ Some cid)

-- a reader that finds the CID of the bytes, and only it, gives the computed one
found_or_none : (bytes : List ℕ) (answer : Result CidParts CidFault) (computed : Option CidParts)
    → ((cid : CidParts) → CidBytes cid bytes ↔ (computed ≡ Some cid))
    → IfOk answer (λ cid. CidBytes cid bytes) → ((cid : CidParts) → CidBytes cid bytes → answer ≡ Ok cid)
    → result_ok answer ≡ computed
found_or_none bytes (Ok cid) computed same found only = sym ((same cid).0 found)
found_or_none bytes (Err fault) None same found only = refl
found_or_none bytes (Err fault) (Some cid) same found only = let e : Err fault ≡ Ok cid = only cid ((same cid).1 refl) in cc

-- so it is of bytes
pub cid_found : CidLaw → (bytes : List ℕ) (answer : Result CidParts CidFault) → AreBytes bytes → IfOk answer (λ cid. CidBytes cid bytes) → ((cid : CidParts) → CidBytes cid bytes → answer ≡ Ok cid)
    → result_ok answer ≡ cid_of bytes
cid_found law bytes answer are found only = found_or_none bytes answer (cid_of bytes) (λ cid. law cid bytes are) found only

-- a CID that is found without a fault is the computed one
cid_told : (at : ℕ) (found : Option CidParts) (cid : CidParts) → cid_or_fault at found ≡ Ok cid → found ≡ Some cid
cid_told at None cid e = absurd (cc)
cid_told at (Some other) cid e = cc

-- CIDs that are computed are those of the links
pub cids_told : CidLaw → (at : ℕ) (links : List Link) (cids : List CidParts) → HaveByteHashes links → cids_from at links ≡ Ok cids → AreCids links cids
cids_told law at [] cids are e = subst (λ (cs : List CidParts). AreCids [] cs) (one_value [] cids e) tt
cids_told law at (link ∷ links) cids are e =
    let (cid, found, rest) = after_told _ _ cids e in
    let (others, found_more, whole) = after_told _ _ cids rest in
    subst (λ (cs : List CidParts). AreCids (link ∷ links) cs) (one_value (cid ∷ others) cids whole)
    ((law cid link.hash are.0).1 (cid_told at (cid_of link.hash) cid found), cids_told law (at + 1) links others are.1 found_more)

-- and the converse
pub cids_ok : CidLaw → (at : ℕ) (links : List Link) (cids : List CidParts) → HaveByteHashes links → AreCids links cids → cids_from at links ≡ Ok cids
cids_ok law at [] [] are h = refl
cids_ok law at (link ∷ links) (cid ∷ cids) are h =
    after_ok _ _ cid (cid ∷ cids) (ap (cid_or_fault at) ((law cid link.hash are.0).0 h.0))
    (after_ok _ _ cids (cid ∷ cids) (cids_ok law (at + 1) links cids are.1 h.1) refl)
cids_ok law at _ _ are h = absurd h

-- there are as many as links
pub cids_count : (links : List Link) (cids : List CidParts) → AreCids links cids → length links ≡ length cids
cids_count [] [] h = refl
cids_count (link ∷ links) (cid ∷ cids) h = ap suc (cids_count links cids h.1)
cids_count _ _ h = absurd h

-- what the CIDs' crate says of CIDs at the front of bytes
abbrev pub FrontLaw : Type 0
FrontLaw = (a b : CidParts) (u v x y : List ℕ) → CidBytes a u → CidBytes b v → u ++ x ≡ v ++ y → (u ≡ v) × (a ≡ b)

-- links have one list of CIDs
pub one_cids : FrontLaw → (links : List Link) (a b : List CidParts) → AreCids links a → AreCids links b → a ≡ b
one_cids law [] [] [] p q = refl
one_cids law [] [] (d ∷ ds) p q = absurd q
one_cids law [] (c ∷ cs) ds p q = absurd p
one_cids law (link ∷ links) [] ds p q = absurd p
one_cids law (link ∷ links) (c ∷ cs) [] p q = absurd q
one_cids law (link ∷ links) (c ∷ cs) (d ∷ ds) p q =
    ap₂ (λ (x : CidParts) (xs : List CidParts). x ∷ xs) (law c d link.hash link.hash [] [] p.0 q.0 refl).1 (one_cids law links cs ds p.1 q.1)
