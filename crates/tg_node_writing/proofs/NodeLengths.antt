-- How many bytes a link, a node and UnixFS data take at most.
use Rattle.std.proofs.Common.{◌≡◌, ◌*◌, ◌+◌, ◌<◌, ◌≤◌, ℕ, Option, None, Some, List, [], ◌∷◌, length, get_or, refl, ap, ◌∙◌, subst, inl, inr, arith, length-append}
use Rattle.std.specs.Prelude.{All, unwrap_or, ⊤}
use Rattle.std.proofs.lemmas.List.{nil_from_length}
use Rattle.std.proofs.lemmas.List.Sums.{sum_by-cons}
use Rattle.std.specs.List.{sum_by}
use Rattle.std.proofs.lemmas.List.Elements.{All-cons, All-contains, All-head, All-nil, All-tail}
use Rattle.tg_cid.specs.Cid.{CidParts}
use Rattle.tg_cid.specs.CodeLaws.{codec_below, hash_below}
use Rattle.tg_cid.specs.Spelling.{CidBytes, Varints, codec_code, hash_code}
use Rattle.tg_cid.specs.declared.cid.HashKind.TheVariants.{Sha256}
use Rattle.tg_dagpb.specs.declared.Link.{Link}
use Rattle.tg_dagpb.specs.declared.TheConstants.{LINK, NODE}
use Rattle.tg_dagpb.specs.Node.{LinkText, LinkTexts}
use Rattle.tg_model.specs.Reading.{inline_of}
use Rattle.tg_model.specs.declared.kinds.NewEntry.{NewEntry}
use Rattle.tg_pbtable.specs.Laws.{TableLaws}
use Rattle.tg_pbtable.specs.Message.{AreRuled, HasRule, IsTable, Message}
use Rattle.tg_pbtable.specs.Values.{bytes_at, listed, numbers_at}
use Rattle.tg_pbtable.specs.declared.table.Field.{Field}
use Rattle.tg_pbtable.specs.declared.table.Order.{Order}
use Rattle.tg_pbtable.specs.declared.table.Rule.{Rule}
use Rattle.tg_pbtable.specs.declared.table.Wire.TheVariants.{Bytes, Varint}
use Rattle.tg_unixfs.specs.Unix.{CanonicalText as CanonicalData}
use Rattle.tg_unixfs.specs.declared.TheConstants.{DATA}
use Rattle.tg_unixfs.specs.declared.Unix.{Unix}
use Rattle.tg_varint.specs.Laws.{SpellingLaws}
use Rattle.tg_pbtable.specs.TableRules.{rule_at}
use Rattle.tg_node_writing.proofs.TextLengths.{IsAmong, at_number, at_numbers, bytes_room, by_numbers, rooms, size_most, small_size, text_fits}
use Rattle.tg_node_writing.specs.DigestLaws.{cid_size, digest_is}
use Rattle.tg_node_writing.specs.Nodes.{AreLinksFor, IsLinkFor, IsNodeOf, IsOfSha256, link_room, node_room}

-- ---- messages under a table

-- what holds of each rule's number holds of each field's
ruled_all : (rules : List Rule) (P : ℕ → Type 0) (fields : List Field) → AreRuled rules fields → All (λ (r : Rule). P r.number) rules
    → All (λ (f : Field). P f.number) fields
ruled_all rules P fields ruled all i f at =
    let h = (ruled i f at).has_rule in
    subst P h.number_is (All-contains (λ (r : Rule). P r.number) rules h.rule all h.among)

-- a message takes what its fields take, number by number
message_fits : (rules : List Rule) (order : Order) (text : List ℕ) (fields : List Field) (ns : List ℕ) → Message rules order text fields
    → All (λ (r : Rule). r.number < 15) rules → All (λ (r : Rule). IsAmong r.number ns) rules → length text ≤ at_numbers text fields ns
message_fits rules order text fields ns m few among =
    let room = text_fits text [] text fields refl m.spelled (ruled_all rules (λ n. n < 15) fields m.ruled few) in
    let numbers = by_numbers text ns fields (ruled_all rules (λ n. IsAmong n ns) fields m.ruled among) in
    omega arith

-- the fields of a number take what its values take
bytes_take : (laws : TableLaws) → (rules : List Rule) (n : ℕ) (text : List ℕ) (fields : List Field) (values : List (List ℕ)) → IsTable rules → AreRuled rules fields
    → HasRule rules n Bytes → bytes_at text n fields ≡ values → at_number text fields n ≡ rooms values
bytes_take laws rules n text fields values t ruled rule e =
    let count = laws.values.count text n fields in
    let all = laws.values.all_bytes rules text n fields t rule ruled in
    let none : length (numbers_at n fields) ≡ 0 = omega arith in
    let sums : rooms (bytes_at text n fields) ≡ rooms values = ap rooms e in
    omega arith

numbers_take : (laws : TableLaws) → (rules : List Rule) (n : ℕ) (text : List ℕ) (fields : List Field) (values : List ℕ) → IsTable rules → AreRuled rules fields
    → HasRule rules n Varint → numbers_at n fields ≡ values → at_number text fields n ≡ 11 * length values
numbers_take laws rules n text fields values t ruled rule e =
    let count = laws.values.count text n fields in
    let all = laws.values.all_numbers rules n fields t rule ruled in
    let none = nil_from_length (bytes_at text n fields) (omega arith) in
    let sums : rooms (bytes_at text n fields) ≡ 0 = ap rooms none in
    let size : length (numbers_at n fields) ≡ length values = ap length e in
    omega arith

-- ---- links

abbrev AllNumbers : (ℕ → Type 0) → List Rule → Type 0
AllNumbers P [] = ⊤
AllNumbers P (rule ∷ rules) = P rule.number × AllNumbers P rules

rules_all : (P : ℕ → Type 0) (rules : List Rule) → AllNumbers P rules → All (λ (r : Rule). P r.number) rules
rules_all P [] h = All-nil (λ (r : Rule). P r.number)
rules_all P (rule ∷ rules) h = All-cons (λ (r : Rule). P r.number) rule rules h.0 (rules_all P rules h.1)

link_rules : (P : ℕ → Type 0) → P 1 → P 2 → P 3 → All (λ (r : Rule). P r.number) LINK.now
link_rules P a b c = rules_all P LINK.now (a, (b, (c, tt)))

-- ---- the CIDs of links

abbrev AreSmall : List ℕ → Type 0
AreSmall [] = ⊤
AreSmall (n ∷ ns) = (n < 128) × AreSmall ns

varints_fit : (spellings : SpellingLaws) → (numbers bytes : List ℕ) → AreSmall numbers → Varints numbers bytes → length bytes ≤ length numbers
varints_fit spellings [] bytes small h = let none : length bytes ≡ 0 = ap length h in omega arith
varints_fit spellings (n ∷ ns) bytes small h =
    let here = spellings.at_most n 1 h.0 (omega arith) small.0 h.3 in
    let there = varints_fit spellings ns h.1 small.1 h.4 in
    let size : length bytes ≡ length h.0 + length h.1 = ap length h.2 ∙ length-append h.0 h.1 in
    omega arith

cid_fits : (spellings : SpellingLaws) → (cid : CidParts) (bytes : List ℕ) → cid.hash ≡ Sha256 → CidBytes cid bytes → length bytes ≤ length cid.digest + 4
cid_fits spellings cid bytes sha (inl zero) = let size : length bytes ≡ 2 + length cid.digest = ap length zero.whole ∙ omega arith in omega arith
cid_fits spellings cid bytes sha (inr one) =
    let digest = digest_is cid.hash (length cid.digest) sha one.size in
    let codec = codec_below cid.codec in
    let hash = hash_below cid.hash in
    let head = varints_fit spellings (1 ∷ codec_code cid.codec ∷ hash_code cid.hash ∷ length cid.digest ∷ []) one.head
    (omega arith, (codec, (hash, (omega arith, tt)))) one.numbers in
    let size : length bytes ≡ length one.head + length cid.digest = ap length one.whole ∙ length-append one.head cid.digest in
    omega arith

-- a link with the field that it is in its node
link_fits : (laws : TableLaws) → (spellings : SpellingLaws) → (entry : NewEntry) (link : Link) (text : List ℕ) → IsLinkFor entry link → LinkText link text
    → IsOfSha256 entry → bytes_room text ≤ link_room entry
link_fits laws spellings entry link text is h sha =
    let t : IsTable LINK.now = laws.messages.table LINK.now refl in
    let m = h.message in
    let all = message_fits LINK.now _ text h.fields (1 ∷ 2 ∷ 3 ∷ []) m (link_rules (λ n. n < 15) (omega arith) (omega arith) (omega arith))
    (link_rules (λ n. IsAmong n (1 ∷ 2 ∷ 3 ∷ [])) (inl refl) (inr (inl refl)) (inr (inr (inl refl)))) in
    let one = bytes_take laws LINK.now 1 text h.fields (link.hash ∷ []) t m.ruled (rule_at LINK.now 0 (omega arith)) h.parts.hash in
    let two = bytes_take laws LINK.now 2 text h.fields (entry.name ∷ []) t m.ruled (rule_at LINK.now 1 (omega arith)) (h.parts.name ∙ ap listed is.1) in
    let three = numbers_take laws LINK.now 3 text h.fields (entry.tsize ∷ []) t m.ruled (rule_at LINK.now 2 (omega arith)) (h.parts.tsize ∙ ap listed is.2) in
    let digest = digest_is entry.cid.hash (length entry.cid.digest) sha (cid_size entry.cid link.hash is.0) in
    let cid = cid_fits spellings entry.cid link.hash sha is.0 in
    let hash_size = small_size (length link.hash) (omega arith) in
    let name_size = size_most (length entry.name) in
    let text_size = size_most (length text) in
    omega arith

-- ---- nodes

links_fit : (laws : TableLaws) → (spellings : SpellingLaws) → (entries : List NewEntry) (links : List Link) (texts : List (List ℕ)) → AreLinksFor entries links
    → LinkTexts links texts → All IsOfSha256 entries → rooms texts ≤ sum_by link_room entries
links_fit laws spellings [] [] [] are ts sha = omega arith
links_fit laws spellings [] [] (t ∷ texts) are ts sha = absurd ts
links_fit laws spellings [] (l ∷ links) texts are ts sha = absurd are
links_fit laws spellings (e ∷ entries) [] texts are ts sha = absurd are
links_fit laws spellings (e ∷ entries) (l ∷ links) [] are ts sha = absurd ts
links_fit laws spellings (e ∷ entries) (l ∷ links) (t ∷ texts) are ts sha =
    let sums = sum_by-cons link_room e entries in
    let here = link_fits laws spellings e l t are.0 ts.0 (All-head IsOfSha256 e entries sha) in
    let there = links_fit laws spellings entries links texts are.1 ts.1 (All-tail IsOfSha256 e entries sha) in
    omega arith

node_rules : (P : ℕ → Type 0) → P 1 → P 2 → All (λ (r : Rule). P r.number) NODE.now
node_rules P a b = rules_all P NODE.now (a, (b, tt))

data_rules : (P : ℕ → Type 0) → P 1 → P 2 → P 3 → P 4 → P 5 → P 6 → P 7 → P 8 → All (λ (r : Rule). P r.number) DATA.now
data_rules P a b c d e f g h = rules_all P DATA.now (a, (b, (c, (d, (e, (f, (g, (h, tt))))))))

inline_fits : (inline : Option (List ℕ)) → rooms (listed inline) ≤ 11 + length (unwrap_or inline [])
inline_fits None = omega arith
inline_fits (Some bytes) = let size = size_most (length bytes) in omega arith

at_most_one : (value : Option ℕ) → length (listed value) ≤ 1
at_most_one None = omega arith
at_most_one (Some n) = omega arith

abbrev eight : List ℕ
eight = 1 ∷ 2 ∷ 3 ∷ 4 ∷ 5 ∷ 6 ∷ 7 ∷ 8 ∷ []

-- fields of low numbers alone have no bytes of a high one, and no numbers
no_bytes : (laws : TableLaws) → (text : List ℕ) (fields : List Field) (n : ℕ) → All (λ (f : Field). f.number < 7) fields → 7 ≤ n → bytes_at text n fields ≡ []
no_bytes laws text fields n low high = laws.values.no_bytes text n fields (λ k d l e. let less : (get_or fields k d).number < 7 = low k d l in absurd (omega arith))

no_numbers : (laws : TableLaws) → (fields : List Field) (n : ℕ) → All (λ (f : Field). f.number < 7) fields → 7 ≤ n → numbers_at n fields ≡ []
no_numbers laws fields n low high = laws.values.no_numbers n fields (λ k d l e. let less : (get_or fields k d).number < 7 = low k d l in absurd (omega arith))

data_fits : (laws : TableLaws) → (unix : Unix) (text : List ℕ) → CanonicalData unix text → length text ≤ 11 * length unix.sizes + length (inline_of unix) + 55
data_fits laws unix text canonical =
    let h = canonical.is_text in
    let t : IsTable DATA.now = laws.messages.table DATA.now refl in
    let m = h.message in
    let all = message_fits DATA.now _ text h.fields eight m
    (data_rules (λ n. n < 15) (omega arith) (omega arith) (omega arith) (omega arith) (omega arith) (omega arith) (omega arith) (omega arith))
    (data_rules (λ n. IsAmong n eight) (inl refl) (inr (inl refl)) (inr (inr (inl refl))) (inr (inr (inr (inl refl)))) (inr (inr (inr (inr (inl refl))))) (inr (inr (inr (inr (inr (inl refl))))))
    (inr (inr (inr (inr (inr (inr (inl refl))))))) (inr (inr (inr (inr (inr (inr (inr (inl refl))))))))) in
    let one = numbers_take laws DATA.now 1 text h.fields (unix.kind ∷ []) t m.ruled (rule_at DATA.now 0 (omega arith)) h.parts.kind in
    let two = bytes_take laws DATA.now 2 text h.fields (listed unix.inline) t m.ruled (rule_at DATA.now 1 (omega arith)) h.parts.inline in
    let three = numbers_take laws DATA.now 3 text h.fields (listed unix.filesize) t m.ruled (rule_at DATA.now 2 (omega arith)) h.parts.filesize in
    let four = numbers_take laws DATA.now 4 text h.fields unix.sizes t m.ruled (rule_at DATA.now 3 (omega arith)) h.parts.sizes in
    let five = numbers_take laws DATA.now 5 text h.fields (listed unix.hash) t m.ruled (rule_at DATA.now 4 (omega arith)) h.parts.hash in
    let sixth = numbers_take laws DATA.now 6 text h.fields (listed unix.fanout) t m.ruled (rule_at DATA.now 5 (omega arith)) h.parts.fanout in
    let seventh = numbers_take laws DATA.now 7 text h.fields [] t m.ruled (rule_at DATA.now 6 (omega arith)) (no_numbers laws h.fields 7 canonical.bare (omega arith)) in
    let eighth = bytes_take laws DATA.now 8 text h.fields [] t m.ruled (rule_at DATA.now 7 (omega arith)) (no_bytes laws text h.fields 8 canonical.bare (omega arith)) in
    let inline = inline_fits unix.inline in
    let filesize = at_most_one unix.filesize in
    let hash = at_most_one unix.hash in
    let fanout = at_most_one unix.fanout in
    omega arith

pub node_fits : (laws : TableLaws) → (spellings : SpellingLaws) → (entries : List NewEntry) (unix : Unix) (block : List ℕ) → IsNodeOf entries unix block
    → All IsOfSha256 entries → length block ≤ node_room entries unix
node_fits laws spellings entries unix block h sha =
    let text = h.text.is_text in
    let t : IsTable NODE.now = laws.messages.table NODE.now refl in
    let m = text.message in
    let all = message_fits NODE.now _ block text.fields (1 ∷ 2 ∷ []) m (node_rules (λ n. n < 15) (omega arith) (omega arith))
    (node_rules (λ n. IsAmong n (1 ∷ 2 ∷ [])) (inl refl) (inr (inl refl))) in
    let one = bytes_take laws NODE.now 1 block text.fields (h.payload ∷ []) t m.ruled (rule_at NODE.now 0 (omega arith)) text.parts.payload in
    let two = bytes_take laws NODE.now 2 block text.fields (bytes_at block 2 text.fields) t m.ruled (rule_at NODE.now 1 (omega arith)) refl in
    let links = links_fit laws spellings entries h.links (bytes_at block 2 text.fields) h.links_are text.parts.links sha in
    let content = data_fits laws unix h.payload h.unix_is in
    let size = size_most (length h.payload) in
    omega arith
