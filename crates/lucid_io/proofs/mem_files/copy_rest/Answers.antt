use Rattle.std.proofs.Common.{◌≡◌, ℕ, ◌≤◌, ◌++◌, List, Option, length, map, min, take, drop, arith, sym, ◌∙◌, ap, subst, length-drop}
use Rattle.lucid_io.specs.MemFiles.{bytes_at, left_at}
use Rattle.lucid_io.specs.MemFilesFields.{file_view}
use Rattle.lucid_io.proofs.FilesInMemory.{bytes_at-map}
use Rattle.lucid_io.proofs.mem_files.copy_rest.Goals as goal

pub copy-requires : goal.copy-requires
copy-requires c =
    subst (λ (bytes : List ℕ). c.args.given ≤ length bytes) (bytes_at-map _ _ _ (c.requires.there _ c.in-Some.is) c.index.ensures) (c.requires.within _ c.in-Some.is)

pub returns-in-Some-clause-count : goal.returns-in-Some-clause-count
returns-in-Some-clause-count c =
    let files = map file_view c.args.files.now.items in
    let bytes_are = bytes_at-map c.args.files.now.items c.in-Some.place c.index.result.now (c.requires.there _ c.in-Some.is) c.index.ensures in
    let rest_is = ap (λ (begun : Option ℕ). left_at files begun c.args.given) c.in-Some.is ∙ ap (drop c.args.given) bytes_are in
    c.copy.ensures.count ∙ ap (min (length c.args.room.now)) (sym (ap length rest_is ∙ length-drop c.args.given c.index.result.now.bytes.items))

pub returns-in-Some-clause-room : goal.returns-in-Some-clause-room
returns-in-Some-clause-room c =
    let files = map file_view c.args.files.now.items in
    let bytes_are = bytes_at-map c.args.files.now.items c.in-Some.place c.index.result.now (c.requires.there _ c.in-Some.is) c.index.ensures in
    let rest_is = ap (λ (begun : Option ℕ). left_at files begun c.args.given) c.in-Some.is ∙ ap (drop c.args.given) bytes_are in
    c.copy.ensures.room ∙ ap (λ (rest : List ℕ). take c.copy.result rest ++ drop c.copy.result c.args.room.now) (sym rest_is)

pub returns-in-Some-clause-still : goal.returns-in-Some-clause-still
returns-in-Some-clause-still c i is =
    let bytes_are = bytes_at-map c.args.files.now.items c.in-Some.place c.index.result.now (c.requires.there _ c.in-Some.is) c.index.ensures in
    let here : bytes_at (map file_view c.args.files.now.items) i ≡ bytes_at (map file_view c.args.files.now.items) c.in-Some.place = cc in
    let within : c.args.given ≤ length (bytes_at (map file_view c.args.files.now.items) i) = c.requires.within i is in
    omega (arith, within, c.copy.ensures.count, ap length here, ap length bytes_are)
