use Rattle.std.proofs.Common.{◌≡◌, sym, ap, ap₂, ◌∙◌, [], ℕ, ◌+◌, ◌*◌, ◌≤◌, ◌<◌, mul-le-mul, arith, pos, map, length, get_or, take, take_all, length-take-le, get_or-take}
use Rattle.std.proofs.lemmas.List.Edits.{sets}
use Rattle.integers.specs.Filled.{filled}
use Rattle.catalogue_rules.specs.Catalogue.{coordinates, most_numbers}
use Rattle.lattices.specs.Refusal.{most_vectors, most_coordinates}
use Rattle.catalogue_fold.specs.Spread.{cut, cut-more, length_cut, put-filled}
use Rattle.catalogue_fold.proofs.printing.spread.Goals as goal

-- the row after the first i has room
fits : (i d m : ℕ) → i < d → d ≤ most_vectors → m ≤ most_coordinates → i * m + m ≤ most_numbers
fits i d m h k w =
    let f : i + 1 ≤ most_vectors = omega arith in
    let e : (i + 1) * m ≤ most_vectors * most_coordinates = mul-le-mul f w in
    omega (arith, e)

pub loop-i-preserved : goal.loop-i-preserved
loop-i-preserved c =
    let d = c.args.l.now.d in
    let m = c.args.l.now.m in
    let rows = take c.args.l.now.d c.args.l.now.vectors in
    let i = c.loop-i.i in
    let many : c.args.l.now.d ≤ length c.args.l.now.vectors = c.requires.count in
    let long : length (take c.args.l.now.d c.args.l.now.vectors) ≡ c.args.l.now.d = length-take-le d c.args.l.now.vectors many in
    let full : (j : ℕ) → j < c.args.l.now.d → length (get_or (take c.args.l.now.d c.args.l.now.vectors) j []) ≡ most_coordinates =
    λ j h. ap length (get_or-take d c.args.l.now.vectors j [] h) ∙ c.requires.rows j h in
    let here : i < c.args.l.now.d = omega arith in
    let room = fits i d m here c.requires.few c.requires.narrow in
    let wide : length (take c.args.l.now.m (get_or (take c.args.l.now.d c.args.l.now.vectors) c.loop-i.i [])) ≡ c.args.l.now.m =
    length-take-le m (get_or rows i []) (omega (arith, full i here, c.requires.narrow)) in
    let done : length (cut c.args.l.now.m (take c.args.l.now.d c.args.l.now.vectors) c.loop-i.i) ≡ c.loop-i.i * c.args.l.now.m =
    length_cut m rows i (omega arith) (λ j h. omega (arith, full j (omega arith), c.requires.narrow)) in
    c.put_row.ensures
    ∙ ap₂ (λ o n. sets o n (take m (get_or rows i []))) c.loop-i.invariant (sym done)
    ∙ put-filled (pos 0) most_numbers (cut m rows i) (take m (get_or rows i [])) (omega (arith, done, wide, room))
    ∙ ap (filled (pos 0) most_numbers) (sym (cut-more m rows i (omega arith)))

pub returns : goal.returns
returns c =
    let m = c.args.l.now.m in
    let rows = take c.args.l.now.d c.args.l.now.vectors in
    c.loop-i.invariant
    ∙ ap (λ l. filled (pos 0) most_numbers (coordinates (map (take m) l))) (take_all c.loop-i.i rows (omega arith))
