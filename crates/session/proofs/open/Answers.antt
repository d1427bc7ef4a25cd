use Rattle.std.proofs.Common.{◌≡◌, ◌≤◌, length, drop, ◌++◌, replicate, sym, ap, ◌∙◌, subst, arith}
use Rattle.taps.specs.Promise.{GoodBook, left_by}
use Rattle.taps.specs.Values.{book_of}
use Rattle.taps.proofs.Good.{book_is_good}
use Rattle.octets.specs.Bytes.{written}
use Rattle.session.specs.Layout.{half, head_of, left_opened, right_opened}
use Rattle.session.proofs.Opened.{opened_slices, size_left, size_right, written_whole}
use Rattle.session.proofs.Sent.{opens}
use Rattle.session.proofs.open.Goals as goal

pub split_at_mut-left-requires : goal.split_at_mut-left-requires
split_at_mut-left-requires c = subst (λ n. n ≤ length c.args.left.now) (sym c.in-Some.ensures.0) c.in-Some.ensures.1

pub split_at_mut-right-requires : goal.split_at_mut-right-requires
split_at_mut-right-requires c = subst (λ n. n ≤ length c.args.right.now) (sym c.in-Some.ensures.0) c.in-Some.ensures.2

pub write_head-requires : goal.write_head-requires
write_head-requires c = omega (arith, c.fill.auto.self, c.split_at_mut-left.ensures.front_len, c.in-Some.ensures, c.half.ensures)

pub returns-clause-value : goal.returns-clause-value
returns-clause-value c =
    let known = c.in_ok-setup.ensures.value in
    let fits = c.in-Some.ensures in
    let most = c.args.limit in
    let b = book_of c.in_ok-setup.setup.book in
    let few = subst (λ n. n ≤ 256) known.1 c.in_ok-setup.setup.few in
    let size : c.half.result ≡ half b most = c.half.ensures ∙ ap (half b) known.1 in
    sym (opens c.args.book.now b most _ _ known.0 few (subst (λ n. n ≤ length c.args.left.now) size fits.1) (subst (λ n. n ≤ length c.args.right.now) size fits.2))

pub returns-clause-opened : goal.returns-clause-opened
unfolding left_by
returns-clause-opened c =
    λ b is.
    let most = c.args.limit in
    let known = c.in_ok-setup.ensures.value in
    let fits = c.in-Some.ensures in
    let same : book_of c.in_ok-setup.setup.book ≡ b = cc in
    let good : GoodBook b = subst GoodBook same (book_is_good c.in_ok-setup.setup.book) in
    let few : most ≤ 256 = omega (arith, c.in_ok-setup.setup.few, known.1) in
    let size : c.in-Some.half ≡ half b most = fits.0 ∙ c.half.ensures ∙ (λ j. half (same j) (known.1 j)) in
    let left_fits = subst (λ n. n ≤ length c.args.left.now) (sym fits.0 ∙ size) fits.1 in
    let right_fits = subst (λ n. n ≤ length c.args.right.now) (sym fits.0 ∙ size) fits.2 in
    let left_blank : c.fill.new.self ≡ replicate (half b most) 0 = c.fill.ensures.after (λ y is. is) ∙ ap (λ n. replicate n 0) (c.split_at_mut-left.ensures.front_len ∙ size) in
    let right_blank : c.fill-2.new.self ≡ right_opened b most = c.fill-2.ensures.after (λ y is. is) ∙ ap (λ n. replicate n 0) (c.split_at_mut-right.ensures.front_len ∙ size) in
    let left_made : c.write_head.new.words ≡ left_opened b most = c.write_head.ensures ∙ (λ j. written (head_of (same j) (known.1 j)) (left_blank j)) in
    let left_rest = c.split_at_mut-left.ensures.back ∙ ap (λ n. drop n c.args.left.now) size in
    let right_rest = c.split_at_mut-right.ensures.back ∙ ap (λ n. drop n c.args.right.now) size in
    let left_is = ap (λ ws. ws ++ c.split_at_mut-left.result.1.now) left_made ∙ written_whole (left_opened b most) c.args.left.now _ (half b most) (size_left b most good few) left_fits left_rest in
    let right_is = ap (λ ws. ws ++ c.split_at_mut-right.result.1.now) right_blank ∙ written_whole (right_opened b most) c.args.right.now _ (half b most) (size_right b most good few) right_fits right_rest in
    let stands = opened_slices b most good few c.args.left.now c.args.right.now _ _ left_fits right_fits left_is right_is in
    (left_is, right_is, (good, few, stands.0), stands.1)
