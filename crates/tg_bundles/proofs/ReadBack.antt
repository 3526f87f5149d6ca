-- Bundles are read back record by record: texts that begin with records and are equal begin with the same one.
use Rattle.std.proofs.Common.{All, List, [], ap, ap₂, append_assoc, append-nil, arith, length, refl, subst, sym}
use Rattle.std.proofs.Common.{ℕ, ◌%◌, ◌+◌, ◌++◌, ◌<◌, ◌^◌, ◌∙◌, ◌∷◌, ◌≡◌, ◌≢◌, ◌≤◌}
use Rattle.std.proofs.lemmas.Fmt.{decimal_by_steps_wide, decimal_is_IsNumeral_wide}
use Rattle.std.proofs.lemmas.List.{append_cancel_left}
use Rattle.std.proofs.lemmas.List.Elements.{All-cons, All-head, All-nil, All-push, All-tail}
use Rattle.std.specs.Prelude.{codes, decimal, get_or}
use Rattle.std.specs.Str.Parse.{digits_value}
use Rattle.tg_bundles.proofs.Escapes.{path_line, paths_differ, up_to_mark}
use Rattle.tg_bundles.specs.Reading.{AreNames, BundlesDiffer, FrontsAreFiles, FrontsAreLinks, FrontsAreRecords, IsProper}
use Rattle.tg_bundles.specs.Records.{Record, bundle_text, file, folder, link, path_text, record_text}
use Rattle.tg_bytes.specs.Ascii.{line_feed, space}
use Rattle.tg_model.specs.Texts.{dir_line, file_line, link_line}

-- ---- sizes

decimal_same : (m n : ℕ) → m < 10 ^ 64 → n < 10 ^ 64 → decimal m ≡ decimal n → m ≡ n
decimal_same m n p q e = sym (decimal_is_IsNumeral_wide m p).1 ∙ (ap (digits_value 10) e ∙ (decimal_is_IsNumeral_wide n q).1)

no_space : (n : ℕ) → n < 10 ^ 64 → All (λ c. c ≢ space) (decimal n)
no_space n h = decimal_by_steps_wide (λ (m : ℕ) (text : List ℕ). All (λ (c : ℕ). c ≢ space) text) one more n h
  where
    one : (m : ℕ) → m < 10 → All (λ c. c ≢ space) ((48 + m) ∷ [])
    one m small = All-cons (λ (c : ℕ). c ≢ space) (48 + m) [] (λ e. omega (arith, e)) (All-nil (λ (c : ℕ). c ≢ space))

    more : (m : ℕ) (text : List ℕ) → 10 ≤ m → All (λ c. c ≢ space) text → All (λ c. c ≢ space) (text ++ (48 + m % 10) ∷ [])
    more m text big have = All-push (λ (c : ℕ). c ≢ space) text (48 + m % 10) have (λ e. omega (arith, e))

-- ---- first lines

-- a path and the line feed behind it
path_same : (p q : List (List ℕ)) (x y : List ℕ) → AreNames p → AreNames q → path_text p ++ line_feed ∷ x ≡ path_text q ++ line_feed ∷ y → (p ≡ q) × (x ≡ y)
path_same p q x y a b e =
    let (same, rest) = up_to_mark line_feed (path_text p) (path_text q) x y (path_line p a) (path_line q b) e in
    (paths_differ p q a b same, rest)

-- a size, a space, and such a path
abbrev sized : ℕ → List (List ℕ) → List ℕ → List ℕ
sized size path behind = decimal size ++ space ∷ (path_text path ++ line_feed ∷ behind)

sized_same : (m n : ℕ) (p q : List (List ℕ)) (x y : List ℕ) → m < 10 ^ 64 → n < 10 ^ 64 → AreNames p → AreNames q → sized m p x ≡ sized n q y
    → (m ≡ n) × (p ≡ q) × (x ≡ y)
sized_same m n p q x y low small a b e =
    let (same, rest) =
    up_to_mark space (decimal m) (decimal n) (path_text p ++ line_feed ∷ x) (path_text q ++ line_feed ∷ y) (no_space m low) (no_space n small) e
    in
    let (path, behind) = path_same p q x y a b rest in
    (decimal_same m n low small same, path, behind)

-- what stands behind a first line, put into it
path_on : (path : List (List ℕ)) (x : List ℕ) → (path_text path ++ line_feed ∷ []) ++ x ≡ path_text path ++ line_feed ∷ x
path_on path x = append_assoc (path_text path) (line_feed ∷ []) x

sized_on : (size : ℕ) (path : List (List ℕ)) (x : List ℕ) → sized size path [] ++ x ≡ sized size path x
sized_on size path x =
    append_assoc (decimal size) (space ∷ (path_text path ++ line_feed ∷ [])) x
    ∙ ap (λ (l : List ℕ). decimal size ++ space ∷ l) (path_on path x)

dir_on : (path : List (List ℕ)) (x : List ℕ) → dir_line (path_text path) ++ x ≡ codes "dir " ++ (path_text path ++ line_feed ∷ x)
dir_on path x = append_assoc (codes "dir ") (path_text path ++ line_feed ∷ []) x ∙ ap (λ (l : List ℕ). codes "dir " ++ l) (path_on path x)

file_on : (size : ℕ) (path : List (List ℕ)) (x : List ℕ) → file_line size (path_text path) ++ x ≡ codes "file " ++ sized size path x
file_on size path x = append_assoc (codes "file ") (sized size path []) x ∙ ap (λ (l : List ℕ). codes "file " ++ l) (sized_on size path x)

link_on : (size : ℕ) (path : List (List ℕ)) (x : List ℕ) → link_line size (path_text path) ++ x ≡ codes "link " ++ sized size path x
link_on size path x = append_assoc (codes "link ") (sized size path []) x ∙ ap (λ (l : List ℕ). codes "link " ++ l) (sized_on size path x)

-- equal ones say the same
dir_same : (p q : List (List ℕ)) (x y : List ℕ) → AreNames p → AreNames q → dir_line (path_text p) ++ x ≡ dir_line (path_text q) ++ y → (p ≡ q) × (x ≡ y)
dir_same p q x y a b e =
    path_same p q x y a b
    (append_cancel_left (codes "dir ") (path_text p ++ line_feed ∷ x) (path_text q ++ line_feed ∷ y) (sym (dir_on p x) ∙ (e ∙ dir_on q y)))

file_same : (m n : ℕ) (p q : List (List ℕ)) (x y : List ℕ) → m < 10 ^ 64 → n < 10 ^ 64 → AreNames p → AreNames q
    → file_line m (path_text p) ++ x ≡ file_line n (path_text q) ++ y → (m ≡ n) × (p ≡ q) × (x ≡ y)
file_same m n p q x y low small a b e =
    sized_same m n p q x y low small a b (append_cancel_left (codes "file ") (sized m p x) (sized n q y) (sym (file_on m p x) ∙ (e ∙ file_on n q y)))

link_same : (m n : ℕ) (p q : List (List ℕ)) (x y : List ℕ) → m < 10 ^ 64 → n < 10 ^ 64 → AreNames p → AreNames q
    → link_line m (path_text p) ++ x ≡ link_line n (path_text q) ++ y → (m ≡ n) × (p ≡ q) × (x ≡ y)
link_same m n p q x y low small a b e =
    sized_same m n p q x y low small a b (append_cancel_left (codes "link ") (sized m p x) (sized n q y) (sym (link_on m p x) ∙ (e ∙ link_on n q y)))

-- ---- what stands behind first lines

-- as many bytes, and a line feed
bytes_same : (b c u v : List ℕ) → length b ≡ length c → b ++ u ≡ c ++ v → (b ≡ c) × (u ≡ v)
bytes_same [] [] u v l e = (refl, e)
bytes_same [] (y ∷ c) u v l e = absurd (omega (arith, l))
bytes_same (x ∷ b) [] u v l e = absurd (omega (arith, l))
bytes_same (x ∷ b) (y ∷ c) u v l e =
    let same : x ≡ y = cc e in
    let both : b ++ u ≡ c ++ v = cc e in
    let (own, rest) = bytes_same b c u v (omega (arith, l)) both in
    (ap₂ (λ (n : ℕ) (m : List ℕ). n ∷ m) same own, rest)

body_same : (b c u v : List ℕ) → length b ≡ length c → (b ++ line_feed ∷ []) ++ u ≡ (c ++ line_feed ∷ []) ++ v → (b ≡ c) × (u ≡ v)
body_same b c u v l e =
    let (own, rest) = bytes_same b c (line_feed ∷ u) (line_feed ∷ v) l (sym (append_assoc b (line_feed ∷ []) u) ∙ (e ∙ append_assoc c (line_feed ∷ []) v)) in
    (own, cc rest)

-- fewer bytes are a front of the others
bytes_left : (b c u v : List ℕ) (left : ℕ) → length c ≡ length b + left → b ++ u ≡ c ++ v
    → (last : List ℕ) × (c ≡ b ++ last) × (length last ≡ left) × (u ≡ last ++ v)
bytes_left [] c u v left l e = (c, refl, omega (arith, l), e)
bytes_left (x ∷ b) [] u v left l e = absurd (omega (arith, l))
bytes_left (x ∷ b) (y ∷ c) u v left l e =
    let same : x ≡ y = cc e in
    let both : b ++ u ≡ c ++ v = cc e in
    let (last, is, amount, behind) = bytes_left b c u v left (omega (arith, l)) both in
    (last, ap₂ (λ (n : ℕ) (m : List ℕ). n ∷ m) (sym same) is, amount, behind)

-- ---- records

-- the first letter of a record's text
apart : (a b : List ℕ) → (get_or a 0 0 ≡ get_or b 0 0 → ⊥) → a ≡ b → ⊥
apart a b none e = none (ap (λ (l : List ℕ). get_or l 0 0) e)

first_same : (a b : Record) (u v : List ℕ) → IsProper a → IsProper b → record_text a ++ u ≡ record_text b ++ v → (a ≡ b) × (u ≡ v)
first_same (folder p) (folder q) u v a b e =
    let (path, rest) = dir_same p q u v a.names b.names e in
    (ap (λ (l : List (List ℕ)). folder l) path, rest)
first_same (folder p) (file q c) u v a b e = absurd (apart (record_text (folder p) ++ u) (record_text (file q c) ++ v) (λ h. omega (arith, h)) e)
first_same (folder p) (link q c) u v a b e = absurd (apart (record_text (folder p) ++ u) (record_text (link q c) ++ v) (λ h. omega (arith, h)) e)
first_same (file p b) (folder q) u v a c e = absurd (apart (record_text (file p b) ++ u) (record_text (folder q) ++ v) (λ h. omega (arith, h)) e)
first_same (file p b) (file q c) u v a d e =
    let (size, path, behind) =
    file_same (length b) (length c) p q ((b ++ line_feed ∷ []) ++ u) ((c ++ line_feed ∷ []) ++ v) a.size d.size a.names d.names
    (sym (append_assoc (file_line (length b) (path_text p)) (b ++ line_feed ∷ []) u)
    ∙ (e ∙ append_assoc (file_line (length c) (path_text q)) (c ++ line_feed ∷ []) v))
    in
    let (own, rest) = body_same b c u v size behind in
    (ap₂ (λ (l : List (List ℕ)) (m : List ℕ). file l m) path own, rest)
first_same (file p b) (link q c) u v a d e = absurd (apart (record_text (file p b) ++ u) (record_text (link q c) ++ v) (λ h. omega (arith, h)) e)
first_same (link p b) (folder q) u v a c e = absurd (apart (record_text (link p b) ++ u) (record_text (folder q) ++ v) (λ h. omega (arith, h)) e)
first_same (link p b) (file q c) u v a d e = absurd (apart (record_text (link p b) ++ u) (record_text (file q c) ++ v) (λ h. omega (arith, h)) e)
first_same (link p b) (link q c) u v a d e =
    let (size, path, behind) =
    link_same (length b) (length c) p q ((b ++ line_feed ∷ []) ++ u) ((c ++ line_feed ∷ []) ++ v) a.size d.size a.names d.names
    (sym (append_assoc (link_line (length b) (path_text p)) (b ++ line_feed ∷ []) u)
    ∙ (e ∙ append_assoc (link_line (length c) (path_text q)) (c ++ line_feed ∷ []) v))
    in
    let (own, rest) = body_same b c u v size behind in
    (ap₂ (λ (l : List (List ℕ)) (m : List ℕ). link l m) path own, rest)

-- no record's text is empty
some_text : (a : Record) (u : List ℕ) → record_text a ++ u ≡ [] → ⊥
some_text (folder p) u e = absurd (cc e)
some_text (file p b) u e = absurd (cc e)
some_text (link p b) u e = absurd (cc e)

-- ---- bundles

pub fronts_are_records : FrontsAreRecords
fronts_are_records [] records rest p q e = (records, refl, e)
fronts_are_records (a ∷ front) [] rest p q e =
    absurd (some_text a (bundle_text front ++ rest) (sym (append_assoc (record_text a) (bundle_text front) rest) ∙ e))
fronts_are_records (a ∷ front) (b ∷ records) rest p q e =
    let (same, behind) =
    first_same a b (bundle_text front ++ rest) (bundle_text records) (All-head IsProper a front p) (All-head IsProper b records q)
    (sym (append_assoc (record_text a) (bundle_text front) rest) ∙ e)
    in
    let (more, is, left) = fronts_are_records front records rest (All-tail IsProper a front p) (All-tail IsProper b records q) behind in
    (more, ap₂ (λ (r : Record) (l : List Record). r ∷ l) (sym same) is, left)

-- no record is left where no text is
none_left : (more : List Record) → [] ≡ bundle_text more → more ≡ []
none_left [] e = refl
none_left (a ∷ more) e = absurd (some_text a (bundle_text more) (sym e))

pub bundles_differ : BundlesDiffer
bundles_differ a b p q e =
    let (more, is, left) = fronts_are_records a b [] p q (append-nil (bundle_text a) ∙ e) in
    sym (append-nil a) ∙ (ap (λ (l : List Record). a ++ l) (sym (none_left more left)) ∙ sym is)

-- the record of which a first line says a file
file_begins : (more : List Record) (path : List (List ℕ)) (bytes rest : List ℕ) (left : ℕ) → All IsProper more → AreNames path → length bytes + left < 10 ^ 64
    → file_line (length bytes + left) (path_text path) ++ (bytes ++ rest) ≡ bundle_text more
    → (last : List ℕ) × (others : List Record) × (more ≡ file path (bytes ++ last) ∷ others) × (length last ≡ left)
    × (rest ≡ last ++ line_feed ∷ bundle_text others)
file_begins [] path bytes rest left p are small e = absurd (cc e)
file_begins (folder q ∷ more) path bytes rest left p are small e =
    absurd (apart (file_line (length bytes + left) (path_text path) ++ (bytes ++ rest)) (bundle_text (folder q ∷ more)) (λ h. omega (arith, h)) e)
file_begins (link q c ∷ more) path bytes rest left p are small e =
    absurd (apart (file_line (length bytes + left) (path_text path) ++ (bytes ++ rest)) (bundle_text (link q c ∷ more)) (λ h. omega (arith, h)) e)
file_begins (file q c ∷ more) path bytes rest left p are small e =
    let own = All-head IsProper (file q c) more p in
    let (size, same, behind) =
    file_same (length bytes + left) (length c) path q (bytes ++ rest) ((c ++ line_feed ∷ []) ++ bundle_text more) small own.size are own.names
    (e ∙ append_assoc (file_line (length c) (path_text q)) (c ++ line_feed ∷ []) (bundle_text more))
    in
    let (last, is, amount, after) =
    bytes_left bytes c rest (line_feed ∷ bundle_text more) left (sym size) (behind ∙ append_assoc c (line_feed ∷ []) (bundle_text more))
    in
    (last, more, ap₂ (λ (l : List (List ℕ)) (m : List ℕ). file l m ∷ more) (sym same) is, amount, after)

-- what holds of all of a list holds of its end
right_of : (a b : List Record) → All IsProper (a ++ b) → All IsProper b
right_of [] b h = h
right_of (x ∷ a) b h = right_of a b (All-tail IsProper x (a ++ b) h)

pub fronts_are_files : FrontsAreFiles
fronts_are_files front records path bytes rest left p q are small e =
    let (more, is, behind) = fronts_are_records front records (file_line (length bytes + left) (path_text path) ++ (bytes ++ rest)) p q e in
    let proper : All IsProper more = right_of front more (subst (All IsProper) is q) in
    let (last, others, same, amount, after) = file_begins more path bytes rest left proper are small behind in
    (last, others, is ∙ ap (λ (l : List Record). front ++ l) same, amount, after)

-- the record of which a first line says a symbolic link
link_begins : (more : List Record) (path : List (List ℕ)) (rest : List ℕ) (size : ℕ) → All IsProper more → AreNames path → size < 10 ^ 64
    → link_line size (path_text path) ++ rest ≡ bundle_text more
    → (target : List ℕ) × (others : List Record) × (more ≡ link path target ∷ others) × (length target ≡ size)
    × (rest ≡ target ++ line_feed ∷ bundle_text others)
link_begins [] path rest size p are small e = absurd (cc e)
link_begins (folder q ∷ more) path rest size p are small e =
    absurd (apart (link_line size (path_text path) ++ rest) (bundle_text (folder q ∷ more)) (λ h. omega (arith, h)) e)
link_begins (file q c ∷ more) path rest size p are small e =
    absurd (apart (link_line size (path_text path) ++ rest) (bundle_text (file q c ∷ more)) (λ h. omega (arith, h)) e)
link_begins (link q c ∷ more) path rest size p are small e =
    let own = All-head IsProper (link q c) more p in
    let (same, paths, behind) =
    link_same size (length c) path q rest ((c ++ line_feed ∷ []) ++ bundle_text more) small own.size are own.names
    (e ∙ append_assoc (link_line (length c) (path_text q)) (c ++ line_feed ∷ []) (bundle_text more))
    in
    (c, more, ap (λ (l : List (List ℕ)). link l c ∷ more) (sym paths), sym same, behind ∙ append_assoc c (line_feed ∷ []) (bundle_text more))

pub fronts_are_links : FrontsAreLinks
fronts_are_links front records path rest size p q are small e =
    let (more, is, behind) = fronts_are_records front records (link_line size (path_text path) ++ rest) p q e in
    let proper : All IsProper more = right_of front more (subst (All IsProper) is q) in
    let (target, others, same, amount, after) = link_begins more path rest size proper are small behind in
    (target, others, is ∙ ap (λ (l : List Record). front ++ l) same, amount, after)
