-- What is written for a link and for fields of one number, wherever it stands in a text.
use Rattle.std.specs.Prelude.{◌≡◌, ℕ, List, [], ◌∷◌, ◌++◌}
use Rattle.tg_pbtable.specs.Message.{NumberSpelling}
use Rattle.tg_pbtable.specs.Emitted.{BytesSpelling}
use Rattle.tg_pbtable.specs.Values.{listed}
use Rattle.tg_dagpb.specs.declared.Link.{Link}
use Rattle.tg_dagpb.specs.Node.{LinkText}

-- fields of one number with these bytes, one behind another
abbrev pub BytesTexts : ℕ → List (List ℕ) → List ℕ → Type 0
BytesTexts number [] bytes = bytes ≡ []
BytesTexts number (content ∷ contents) bytes =
    (front : List ℕ) × (rest : List ℕ) × (bytes ≡ front ++ rest) × BytesSpelling number content front × BytesTexts number contents rest

-- fields of one number with these numbers, one behind another
abbrev pub NumberTexts : ℕ → List ℕ → List ℕ → Type 0
NumberTexts number [] bytes = bytes ≡ []
NumberTexts number (value ∷ values) bytes =
    (front : List ℕ) × (rest : List ℕ) × (bytes ≡ front ++ rest) × NumberSpelling number value front × NumberTexts number values rest

-- the fields of a link: 1 Hash, 2 Name, 3 Tsize
pub record LinkContent (link : Link) (content : List ℕ) : Type 0 where
  pub hash : List ℕ
  pub name : List ℕ
  pub tsize : List ℕ
  pub whole : content ≡ hash ++ (name ++ tsize)
  pub hash_is : BytesSpelling 1 link.hash hash
  pub name_is : BytesTexts 2 (listed link.name) name
  pub tsize_is : NumberTexts 3 (listed link.tsize) tsize

-- the field of a link in a node
pub record LinkField (link : Link) (bytes : List ℕ) : Type 0 where
  pub content : List ℕ
  pub is_text : LinkText link content
  pub field : BytesSpelling 2 content bytes
