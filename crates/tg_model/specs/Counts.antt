-- What the limits of a query count.
use Rattle.std.specs.List.{flat_map}
use Rattle.std.specs.Prelude.{Bool, List, [], bytes_eq, false, filter, if◌then◌else◌, length, map, max, nat_eq, nat_lt}
use Rattle.std.specs.Prelude.{not, sum, true, ℕ, ◌++◌, ◌+◌, ◌-◌, ◌∷◌}
use Rattle.tg_model.specs.Dag.{Dag}
use Rattle.tg_model.specs.LimitNumbers.{LimitNumbers}
use Rattle.tg_model.specs.Queries.{QueryParts}
use Rattle.tg_model.specs.Texts.{listing_line}
use Rattle.tg_model.specs.Traversal.{ListedEntry, Traversal, asked, sections_of, sent, traversal}

-- the greatest number, and 0 of none
abbrev pub greatest : List ℕ → ℕ
greatest [] = 0
greatest (n ∷ ns) = max n (greatest ns)

-- the entries that were met with one more behind them, but for those of directories below its own, which are done with:
-- the path of a directory is longer than that of the one that it stands in
abbrev pub met_with : List ListedEntry → ListedEntry → List ListedEntry
met_with before m =
    filter (λ other. not (nat_lt (length m.directory) (length other.directory))) before ++ m ∷ []

-- and those of them that are of its directory
abbrev pub met_beside : List ListedEntry → ListedEntry → List ListedEntry
met_beside before m = filter (λ other. nat_eq (length other.directory) (length m.directory)) (met_with before m)

-- what is counted of the directory of each entry up to it, of entries that are met in preorder behind these
abbrev pub each_counted : (List ListedEntry → ℕ) → List ListedEntry → List ListedEntry → List ℕ
each_counted count before [] = []
each_counted count before (m ∷ met) = count (met_beside before m) ∷ each_counted count (met_with before m) met

-- the bytes of their names
abbrev pub names_size : List ListedEntry → ℕ
names_size met = sum (map (λ m. length m.name) met)

-- the lines of a listing that is met; a bundle's lines stand in the text
abbrev pub met_line : ListedEntry → List ℕ
met_line m = if bytes_eq m.directory [] then listing_line (record { name = m.name; cid = m.cid }) else []

-- the bytes of the answer that are met, in preorder
abbrev pub output_count : Traversal → ℕ
output_count t = length t.text + length (flat_map met_line t.met)

-- blocks are remembered where each is sent once
abbrev pub if_once : Bool → ℕ → ℕ
if_once true n = 0
if_once false n = n

-- the counts of a traversal; the bytes that were fed are not its
abbrev pub counts_of : QueryParts → Traversal → LimitNumbers
counts_of q t =
    let opened = sections_of t.places in
    let given = sent q opened in
    let sizes = map (λ section. length section.block) given in
    record {
      block = greatest sizes;
      depth = greatest (map (λ p. p.depth) t.places);
      entries = greatest (each_counted length [] t.met);
      names = greatest (each_counted names_size [] t.met);
      received = 0;
      output = output_count t;
      seen_blocks = if_once q.dups (length given);
      seen_bytes = if_once q.dups (sum sizes);
      reused = if_once q.dups (length (asked q opened) - length given);
    }

-- the counts of a query over a DAG
abbrev pub counts : QueryParts → Dag → LimitNumbers
counts q d = counts_of q (traversal q d)
