-- DAG-PB nodes as messages under their tables (IPLD specification, DAG-PB, Serial Format: messages PBNode and PBLink;
-- that the fields of one number stand together is this project's own profile).
use Rattle.std.specs.Prelude.{◌≡◌, ℕ, ◌<◌, ◌⊎◌, List, [], ◌∷◌, ◌++◌, length, All, IsSome, ⊤}
use Rattle.tg_pbtable.specs.declared.table.Field.{Field}
use Rattle.tg_pbtable.specs.declared.table.Order.TheVariants.{Ascending, Runs}
use Rattle.tg_pbtable.specs.Message.{Message}
use Rattle.tg_pbtable.specs.Values.{numbers_at, bytes_at, listed}
use Rattle.tg_dagpb.specs.declared.TheConstants.{NODE, LINK}
use Rattle.tg_dagpb.specs.declared.Link.{Link}
use Rattle.tg_dagpb.specs.declared.Node.{Node}

-- the fields of a text are the parts of the link
pub record HasLinkParts (text : List ℕ) (fields : List Field) (link : Link) : Type 0 where
  pub hash : bytes_at text 1 fields ≡ link.hash ∷ []
  pub name : bytes_at text 2 fields ≡ listed link.name
  pub tsize : numbers_at 3 fields ≡ listed link.tsize

-- the text is the link's
pub record LinkText (link : Link) (text : List ℕ) : Type 0 where
  pub fields : List Field
  pub message : Message LINK.now Ascending text fields
  pub parts : HasLinkParts text fields link

-- the texts are the links', one by one
abbrev pub LinkTexts : List Link → List (List ℕ) → Type 0
LinkTexts [] [] = ⊤
LinkTexts (link ∷ links) (text ∷ texts) = LinkText link text × LinkTexts links texts
LinkTexts [] (text ∷ texts) = ⊥
LinkTexts (link ∷ links) [] = ⊥

-- the fields of a text are the parts of the node
pub record HasNodeParts (text : List ℕ) (fields : List Field) (node : Node) : Type 0 where
  pub links : LinkTexts node.links (bytes_at text 2 fields)
  pub payload : bytes_at text 1 fields ≡ listed node.payload

-- the node has a link or data
abbrev pub HasContent : Node → Type 0
HasContent node = (0 < length node.links) ⊎ IsSome node.payload

-- the text is the node's
pub record NodeText (node : Node) (text : List ℕ) : Type 0 where
  pub fields : List Field
  pub message : Message NODE.now Runs text fields
  pub parts : HasNodeParts text fields node

-- all links stand before the data
pub record HasLinksFirst (fields : List Field) : Type 0 where
  pub links : List Field
  pub rest : List Field
  pub whole : fields ≡ links ++ rest
  pub are_links : All (λ field. field.number ≡ 2) links
  pub are_data : All (λ field. field.number ≡ 1) rest

-- the data stands before all links
pub record HasDataFirst (fields : List Field) : Type 0 where
  pub first : List Field
  pub links : List Field
  pub whole : fields ≡ first ++ links
  pub are_data : All (λ field. field.number ≡ 1) first
  pub are_links : All (λ field. field.number ≡ 2) links

-- the canonical text of a node, the one that a writer writes: all links, and then the data
pub record CanonicalText (node : Node) (text : List ℕ) : Type 0 where
  pub is_text : NodeText node text
  pub order : HasLinksFirst is_text.fields

-- the other text that a node may have: the data, and then all links
pub record DataFirstText (node : Node) (text : List ℕ) : Type 0 where
  pub is_text : NodeText node text
  pub order : HasDataFirst is_text.fields
