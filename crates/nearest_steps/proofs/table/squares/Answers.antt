-- `squares` adds what fits.
use mathlib.Core.Path.{refl}
use mir.Facts.{to_z-of_z}
use Rattle.nearest_steps.specs.PairFits.{SquaresFit, squares-fit}
use Rattle.nearest_steps.proofs.table.squares.Goals as goal

pub overflow_add-ad : goal.overflow_add-ad
overflow_add-ad c =
    let here : SquaresFit c.args.a c.args.b c.args.c c.args.d c.args.e c.args.f =
    squares-fit c.requires.within c.requires.within_2 c.requires.within_3 c.requires.within_4 c.requires.within_5 c.requires.within_6 in
    let h = here in simp (to_z-of_z, c.ranges.a, c.ranges.b, c.ranges.c, c.ranges.d, c.ranges.e, c.ranges.f, h.ad, h.af, h.df, h.all, h.all-b, h.all-less-b, h.ce, h.c-e) h.ad

pub overflow_add-af : goal.overflow_add-af
overflow_add-af c =
    let here : SquaresFit c.args.a c.args.b c.args.c c.args.d c.args.e c.args.f =
    squares-fit c.requires.within c.requires.within_2 c.requires.within_3 c.requires.within_4 c.requires.within_5 c.requires.within_6 in
    let h = here in simp (to_z-of_z, c.ranges.a, c.ranges.b, c.ranges.c, c.ranges.d, c.ranges.e, c.ranges.f, h.ad, h.af, h.df, h.all, h.all-b, h.all-less-b, h.ce, h.c-e) h.af

pub overflow_add-df : goal.overflow_add-df
overflow_add-df c =
    let here : SquaresFit c.args.a c.args.b c.args.c c.args.d c.args.e c.args.f =
    squares-fit c.requires.within c.requires.within_2 c.requires.within_3 c.requires.within_4 c.requires.within_5 c.requires.within_6 in
    let h = here in simp (to_z-of_z, c.ranges.a, c.ranges.b, c.ranges.c, c.ranges.d, c.ranges.e, c.ranges.f, h.ad, h.af, h.df, h.all, h.all-b, h.all-less-b, h.ce, h.c-e) h.df

pub overflow_add-all : goal.overflow_add-all
overflow_add-all c =
    let here : SquaresFit c.args.a c.args.b c.args.c c.args.d c.args.e c.args.f =
    squares-fit c.requires.within c.requires.within_2 c.requires.within_3 c.requires.within_4 c.requires.within_5 c.requires.within_6 in
    let h = here in simp (to_z-of_z, c.ranges.a, c.ranges.b, c.ranges.c, c.ranges.d, c.ranges.e, c.ranges.f, h.ad, h.af, h.df, h.all, h.all-b, h.all-less-b, h.ce, h.c-e) h.all

pub overflow_add-p : goal.overflow_add-p
overflow_add-p c =
    let here : SquaresFit c.args.a c.args.b c.args.c c.args.d c.args.e c.args.f =
    squares-fit c.requires.within c.requires.within_2 c.requires.within_3 c.requires.within_4 c.requires.within_5 c.requires.within_6 in
    let h = here in simp (to_z-of_z, c.ranges.a, c.ranges.b, c.ranges.c, c.ranges.d, c.ranges.e, c.ranges.f, h.ad, h.af, h.df, h.all, h.all-b, h.all-less-b, h.ce, h.c-e) h.all-b

pub overflow_sub-q : goal.overflow_sub-q
overflow_sub-q c =
    let here : SquaresFit c.args.a c.args.b c.args.c c.args.d c.args.e c.args.f =
    squares-fit c.requires.within c.requires.within_2 c.requires.within_3 c.requires.within_4 c.requires.within_5 c.requires.within_6 in
    let h = here in simp (to_z-of_z, c.ranges.a, c.ranges.b, c.ranges.c, c.ranges.d, c.ranges.e, c.ranges.f, h.ad, h.af, h.df, h.all, h.all-b, h.all-less-b, h.ce, h.c-e) h.all-less-b

pub overflow_add-s : goal.overflow_add-s
overflow_add-s c =
    let here : SquaresFit c.args.a c.args.b c.args.c c.args.d c.args.e c.args.f =
    squares-fit c.requires.within c.requires.within_2 c.requires.within_3 c.requires.within_4 c.requires.within_5 c.requires.within_6 in
    let h = here in simp (to_z-of_z, c.ranges.a, c.ranges.b, c.ranges.c, c.ranges.d, c.ranges.e, c.ranges.f, h.ad, h.af, h.df, h.all, h.all-b, h.all-less-b, h.ce, h.c-e) h.ce

pub overflow_sub-t : goal.overflow_sub-t
overflow_sub-t c =
    let here : SquaresFit c.args.a c.args.b c.args.c c.args.d c.args.e c.args.f =
    squares-fit c.requires.within c.requires.within_2 c.requires.within_3 c.requires.within_4 c.requires.within_5 c.requires.within_6 in
    let h = here in simp (to_z-of_z, c.ranges.a, c.ranges.b, c.ranges.c, c.ranges.d, c.ranges.e, c.ranges.f, h.ad, h.af, h.df, h.all, h.all-b, h.all-less-b, h.ce, h.c-e) h.c-e

pub overflow_add-result : goal.overflow_add-result
overflow_add-result c =
    let here : SquaresFit c.args.a c.args.b c.args.c c.args.d c.args.e c.args.f =
    squares-fit c.requires.within c.requires.within_2 c.requires.within_3 c.requires.within_4 c.requires.within_5 c.requires.within_6 in
    let h = here in simp (to_z-of_z, c.ranges.a, c.ranges.b, c.ranges.c, c.ranges.d, c.ranges.e, c.ranges.f, h.ad, h.af, h.df, h.all, h.all-b, h.all-less-b, h.ce, h.c-e) h.ad-b

pub overflow_sub-result : goal.overflow_sub-result
overflow_sub-result c =
    let here : SquaresFit c.args.a c.args.b c.args.c c.args.d c.args.e c.args.f =
    squares-fit c.requires.within c.requires.within_2 c.requires.within_3 c.requires.within_4 c.requires.within_5 c.requires.within_6 in
    let h = here in simp (to_z-of_z, c.ranges.a, c.ranges.b, c.ranges.c, c.ranges.d, c.ranges.e, c.ranges.f, h.ad, h.af, h.df, h.all, h.all-b, h.all-less-b, h.ce, h.c-e) h.ad-less-b

pub overflow_add-result-2 : goal.overflow_add-result-2
overflow_add-result-2 c =
    let here : SquaresFit c.args.a c.args.b c.args.c c.args.d c.args.e c.args.f =
    squares-fit c.requires.within c.requires.within_2 c.requires.within_3 c.requires.within_4 c.requires.within_5 c.requires.within_6 in
    let h = here in simp (to_z-of_z, c.ranges.a, c.ranges.b, c.ranges.c, c.ranges.d, c.ranges.e, c.ranges.f, h.ad, h.af, h.df, h.all, h.all-b, h.all-less-b, h.ce, h.c-e) h.af-c

pub overflow_sub-result-2 : goal.overflow_sub-result-2
overflow_sub-result-2 c =
    let here : SquaresFit c.args.a c.args.b c.args.c c.args.d c.args.e c.args.f =
    squares-fit c.requires.within c.requires.within_2 c.requires.within_3 c.requires.within_4 c.requires.within_5 c.requires.within_6 in
    let h = here in simp (to_z-of_z, c.ranges.a, c.ranges.b, c.ranges.c, c.ranges.d, c.ranges.e, c.ranges.f, h.ad, h.af, h.df, h.all, h.all-b, h.all-less-b, h.ce, h.c-e) h.af-less-c

pub overflow_add-result-3 : goal.overflow_add-result-3
overflow_add-result-3 c =
    let here : SquaresFit c.args.a c.args.b c.args.c c.args.d c.args.e c.args.f =
    squares-fit c.requires.within c.requires.within_2 c.requires.within_3 c.requires.within_4 c.requires.within_5 c.requires.within_6 in
    let h = here in simp (to_z-of_z, c.ranges.a, c.ranges.b, c.ranges.c, c.ranges.d, c.ranges.e, c.ranges.f, h.ad, h.af, h.df, h.all, h.all-b, h.all-less-b, h.ce, h.c-e) h.df-e

pub overflow_sub-result-3 : goal.overflow_sub-result-3
overflow_sub-result-3 c =
    let here : SquaresFit c.args.a c.args.b c.args.c c.args.d c.args.e c.args.f =
    squares-fit c.requires.within c.requires.within_2 c.requires.within_3 c.requires.within_4 c.requires.within_5 c.requires.within_6 in
    let h = here in simp (to_z-of_z, c.ranges.a, c.ranges.b, c.ranges.c, c.ranges.d, c.ranges.e, c.ranges.f, h.ad, h.af, h.df, h.all, h.all-b, h.all-less-b, h.ce, h.c-e) h.df-less-e

pub overflow_add-result-4 : goal.overflow_add-result-4
overflow_add-result-4 c =
    let here : SquaresFit c.args.a c.args.b c.args.c c.args.d c.args.e c.args.f =
    squares-fit c.requires.within c.requires.within_2 c.requires.within_3 c.requires.within_4 c.requires.within_5 c.requires.within_6 in
    let h = here in simp (to_z-of_z, c.ranges.a, c.ranges.b, c.ranges.c, c.ranges.d, c.ranges.e, c.ranges.f, h.ad, h.af, h.df, h.all, h.all-b, h.all-less-b, h.ce, h.c-e) h.one

pub overflow_sub-result-4 : goal.overflow_sub-result-4
overflow_sub-result-4 c =
    let here : SquaresFit c.args.a c.args.b c.args.c c.args.d c.args.e c.args.f =
    squares-fit c.requires.within c.requires.within_2 c.requires.within_3 c.requires.within_4 c.requires.within_5 c.requires.within_6 in
    let h = here in simp (to_z-of_z, c.ranges.a, c.ranges.b, c.ranges.c, c.ranges.d, c.ranges.e, c.ranges.f, h.ad, h.af, h.df, h.all, h.all-b, h.all-less-b, h.ce, h.c-e) h.two

pub overflow_add-result-5 : goal.overflow_add-result-5
overflow_add-result-5 c =
    let here : SquaresFit c.args.a c.args.b c.args.c c.args.d c.args.e c.args.f =
    squares-fit c.requires.within c.requires.within_2 c.requires.within_3 c.requires.within_4 c.requires.within_5 c.requires.within_6 in
    let h = here in simp (to_z-of_z, c.ranges.a, c.ranges.b, c.ranges.c, c.ranges.d, c.ranges.e, c.ranges.f, h.ad, h.af, h.df, h.all, h.all-b, h.all-less-b, h.ce, h.c-e) h.three

pub overflow_sub-result-5 : goal.overflow_sub-result-5
overflow_sub-result-5 c =
    let here : SquaresFit c.args.a c.args.b c.args.c c.args.d c.args.e c.args.f =
    squares-fit c.requires.within c.requires.within_2 c.requires.within_3 c.requires.within_4 c.requires.within_5 c.requires.within_6 in
    let h = here in simp (to_z-of_z, c.ranges.a, c.ranges.b, c.ranges.c, c.ranges.d, c.ranges.e, c.ranges.f, h.ad, h.af, h.df, h.all, h.all-b, h.all-less-b, h.ce, h.c-e) h.four

pub returns : goal.returns
returns c =
    let here : SquaresFit c.args.a c.args.b c.args.c c.args.d c.args.e c.args.f =
    squares-fit c.requires.within c.requires.within_2 c.requires.within_3 c.requires.within_4 c.requires.within_5 c.requires.within_6 in
    let h = here in simp (to_z-of_z, c.ranges.a, c.ranges.b, c.ranges.c, c.ranges.d, c.ranges.e, c.ranges.f, h.ad, h.af, h.df, h.all, h.all-b, h.all-less-b, h.ce, h.c-e, h.ad-b, h.ad-less-b, h.af-c, h.af-less-c, h.df-e, h.df-less-e, h.one, h.two, h.three, h.four) refl
