use Rattle.std.proofs.Common.{List, [], ap, codes, subst, ℕ, ◌++◌, ◌∙◌, ◌≡◌}
use Rattle.tg_audit_texts.proofs.ExpectedTexts.{bundle_text}
use Rattle.tg_audit_texts.proofs.expected.bundle.Goals as goal
use Rattle.tg_audit_texts.specs.Expected.{IsOrder, file_record, files_bundled}
use Rattle.tg_audit_texts.specs.Hashing.{IsHashing}

pub returns : goal.returns
returns c =
    let drawn = c.args.drawn.now in
    let order = c.in_ok-order.order.items in
    let first : List ℕ = [] ++ codes "dir /\n" in
    let second : List ℕ = (first ++ file_record (codes "/" ++ codes "big") drawn.big) ++ codes "dir /empty\ndir /many\n" in
    let files = files_bundled drawn.many order in
    let big : IsHashing c.add_file.new.hashing (first ++ file_record (codes "/" ++ codes "big") drawn.big) =
    subst (λ (bytes : List ℕ). IsHashing c.add_file.new.hashing (first ++ file_record (codes "/" ++ codes "big") bytes)) c.as_slice.ensures
    (c.add_file.ensures first (c.add.ensures [] c.new-hashing.ensures)) in
    let same : files_bundled c.as_slice-many.result.now c.as_slice-2.result.now ≡ files =
    ap (λ (many : List (List ℕ)). files_bundled many c.as_slice-2.result.now) c.as_slice-many.ensures
    ∙ ap (files_bundled drawn.many) c.as_slice-2.ensures.value in
    let many : IsHashing c.add_files.new.hashing (second ++ files) =
    subst (λ (text : List ℕ). IsHashing c.add_files.new.hashing (second ++ text)) same (c.in_ok-add_files.ensures second (c.add-2.ensures _ big)) in
    let all : IsHashing c.add_file-2.new.hashing ((second ++ files) ++ file_record (codes "/" ++ codes "none") []) =
    c.add_file-2.ensures (second ++ files) many in (
      (second ++ files) ++ file_record (codes "/" ++ codes "none") [],
      record {
        order = order;
        order_is = subst (λ (many : List (List ℕ)). IsOrder many order) c.as_slice-many.ensures c.in_ok-order.ensures.order;
        text_is = bundle_text drawn.big files;
      },
      c.hashed.ensures _ all,
    )
