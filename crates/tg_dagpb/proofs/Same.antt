-- A text is of one link and of one node, and a link has one text.
use Rattle.std.proofs.Common.{◌≡◌, ℕ, zero, suc, ◌<◌, Option, List, [], ◌∷◌, get_or, refl, sym, ap₂, ◌∙◌, subst, arith}
use Rattle.tg_bytes.specs.Lists.{same_only}
use Rattle.tg_pbtable.specs.declared.table.Rule.{Rule}
use Rattle.tg_pbtable.specs.declared.table.Field.{Field}
use Rattle.tg_pbtable.specs.Emitted.{AreSameFields}
use Rattle.tg_pbtable.specs.Values.{bytes_at, HasSameValues, IsSameFor}
use Rattle.tg_pbtable.specs.Laws.{TableLaws}
use Rattle.tg_dagpb.specs.declared.TheConstants.{NODE, LINK}
use Rattle.tg_dagpb.specs.declared.Link.{Link}
use Rattle.tg_dagpb.specs.declared.Node.{Node}
use Rattle.tg_dagpb.specs.Node.{HasLinkParts, LinkText, LinkTexts, HasNodeParts, NodeText}
use Rattle.tg_dagpb.proofs.Parts.{node_table, link_table}

-- ---- one link

abbrev link_with : List ℕ → Option (List ℕ) → Option ℕ → Link
link_with h n t = record { hash = h; name = n; tsize = t }

three_same : (h k : List ℕ) (m n : Option (List ℕ)) (t u : Option ℕ) → h ≡ k → m ≡ n → t ≡ u → link_with h m t ≡ link_with k n u
three_same h k m n t u a b c = rw (a, b, c) refl

parts_same : (laws : TableLaws) → (text : List ℕ) (fs : List Field) (a b : Link) → HasLinkParts text fs a → HasLinkParts text fs b → a ≡ b
parts_same laws text fs a b p q = three_same a.hash b.hash a.name b.name a.tsize b.tsize
    (same_only a.hash b.hash (sym p.hash ∙ q.hash))
    (laws.last_bytes.listed_same a.name b.name (sym p.name ∙ q.name))
    (laws.last_number.listed_same a.tsize b.tsize (sym p.tsize ∙ q.tsize))

pub one_link : (laws : TableLaws) → (text : List ℕ) (a b : Link) → LinkText a text → LinkText b text → a ≡ b
one_link laws text a b p q =
    parts_same laws text q.fields a b (subst (λ (fs : List Field). HasLinkParts text fs a) (laws.messages.one_reading 0 text p.fields q.fields p.message.spelled q.message.spelled) p.parts) q.parts

-- ---- one text of a link

each_same : (s t : List ℕ) (fs gs : List Field) (link : Link) → HasLinkParts s fs link → HasLinkParts t gs link → (k : ℕ) (d : Rule) → k < 3 → IsSameFor s fs t gs (get_or LINK.now k d).number (get_or LINK.now k d).wire
each_same s t fs gs link p q zero d l = p.hash ∙ sym q.hash
each_same s t fs gs link p q (suc zero) d l = p.name ∙ sym q.name
each_same s t fs gs link p q (suc (suc zero)) d l = p.tsize ∙ sym q.tsize
each_same s t fs gs link p q (suc (suc (suc k))) d l = absurd (omega arith)

pub one_link_text : (laws : TableLaws) → (link : Link) (s t : List ℕ) → LinkText link s → LinkText link t → s ≡ t
one_link_text laws link s t p q = laws.messages.ascending LINK.now s t p.fields q.fields (link_table laws) p.message q.message
    (laws.values.by_rules LINK.now s t p.fields q.fields (link_table laws) p.message.ruled q.message.ruled (each_same s t p.fields q.fields link p.parts q.parts))

-- the same fields have the same parts
pub link_again : (laws : TableLaws) → (s t : List ℕ) (fs gs : List Field) (link : Link) → AreSameFields s fs t gs → HasLinkParts s fs link → HasLinkParts t gs link
link_again laws s t fs gs link same p =
    let values = laws.values.same s t fs gs same in
    record {
      hash = sym (values.bytes 1) ∙ p.hash;
      name = sym (values.bytes 2) ∙ p.name;
      tsize = sym (values.numbers 3) ∙ p.tsize;
    }

-- ---- links, one by one

pub one_links : (laws : TableLaws) → (texts : List (List ℕ)) (ls ms : List Link) → LinkTexts ls texts → LinkTexts ms texts → ls ≡ ms
one_links laws [] [] [] p q = refl
one_links laws [] [] (b ∷ ms) p q = absurd q
one_links laws [] (a ∷ ls) ms p q = absurd p
one_links laws (t ∷ texts) [] bs p q = absurd p
one_links laws (t ∷ texts) (a ∷ ls) [] p q = absurd q
one_links laws (t ∷ texts) (a ∷ ls) (b ∷ ms) p q = ap₂ (λ (x : Link) (xs : List Link). x ∷ xs) (one_link laws t a b p.0 q.0) (one_links laws texts ls ms p.1 q.1)

pub one_link_texts : (laws : TableLaws) → (links : List Link) (ss ts : List (List ℕ)) → LinkTexts links ss → LinkTexts links ts → ss ≡ ts
one_link_texts laws [] [] [] p q = refl
one_link_texts laws [] [] (t ∷ ts) p q = absurd q
one_link_texts laws [] (s ∷ ss) ts p q = absurd p
one_link_texts laws (a ∷ links) [] ts p q = absurd p
one_link_texts laws (a ∷ links) (s ∷ ss) [] p q = absurd q
one_link_texts laws (a ∷ links) (s ∷ ss) (t ∷ ts) p q = ap₂ (λ (x : List ℕ) (xs : List (List ℕ)). x ∷ xs) (one_link_text laws a s t p.0 q.0) (one_link_texts laws links ss ts p.1 q.1)

-- ---- one node

abbrev pub node_with : List Link → Option (List ℕ) → Node
node_with l p = record { links = l; payload = p }

two_same : (l m : List Link) (p q : Option (List ℕ)) → l ≡ m → p ≡ q → node_with l p ≡ node_with m q
two_same l m p q a b = rw (a, b) refl

nodes_same : (laws : TableLaws) → (text : List ℕ) (fs : List Field) (a b : Node) → HasNodeParts text fs a → HasNodeParts text fs b → a ≡ b
nodes_same laws text fs a b p q = two_same a.links b.links a.payload b.payload
    (one_links laws (bytes_at text 2 fs) a.links b.links p.links q.links)
    (laws.last_bytes.listed_same a.payload b.payload (sym p.payload ∙ q.payload))

pub one_node : (laws : TableLaws) → (text : List ℕ) (a b : Node) → NodeText a text → NodeText b text → a ≡ b
one_node laws text a b p q =
    nodes_same laws text q.fields a b (subst (λ (fs : List Field). HasNodeParts text fs a) (laws.messages.one_reading 0 text p.fields q.fields p.message.spelled q.message.spelled) p.parts) q.parts

-- ---- two texts of a node have the same values

node_each : (laws : TableLaws) → (s t : List ℕ) (fs gs : List Field) (node : Node) → HasNodeParts s fs node → HasNodeParts t gs node → (k : ℕ) (d : Rule) → k < 2 → IsSameFor s fs t gs (get_or NODE.now k d).number (get_or NODE.now k d).wire
node_each laws s t fs gs node p q zero d l = p.payload ∙ sym q.payload
node_each laws s t fs gs node p q (suc zero) d l = one_link_texts laws node.links (bytes_at s 2 fs) (bytes_at t 2 gs) p.links q.links
node_each laws s t fs gs node p q (suc (suc k)) d l = absurd (omega arith)

pub texts_alike : (laws : TableLaws) → (node : Node) (s t : List ℕ) (p : NodeText node s) (q : NodeText node t) → HasSameValues s p.fields t q.fields
texts_alike laws node s t p q = laws.values.by_rules NODE.now s t p.fields q.fields (node_table laws) p.message.ruled q.message.ruled (node_each laws s t p.fields q.fields node p.parts q.parts)

-- the same fields have the same parts
pub node_again : (laws : TableLaws) → (s t : List ℕ) (fs gs : List Field) (node : Node) → AreSameFields s fs t gs → HasNodeParts s fs node → HasNodeParts t gs node
node_again laws s t fs gs node same p =
    let values = laws.values.same s t fs gs same in
    record {
      links = subst (λ (xs : List (List ℕ)). LinkTexts node.links xs) (values.bytes 2) p.links;
      payload = sym (values.bytes 1) ∙ p.payload;
    }
