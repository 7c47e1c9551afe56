use Rattle.std.specs.Prelude.{◌&&◌}
use Rattle.std.specs.Str.{bytes_eq}
use Rattle.std.proofs.Common.{◌≡◌, ◌+◌, length, drop, suc, sym, ◌∙◌, ap, add-one}
use Rattle.std.proofs.lemmas.List.{take_rest}
use Rattle.tc_users.proofs.LoginData.{login_data-no_space, login_data-parts}
use Rattle.tc_users.proofs.users.is_login.Goals as goal

pub returns-then-text-n-ne32 : goal.returns-then-text-n-ne32
returns-then-text-n-ne32 c =
    sym (login_data-no_space c.args.name.now c.args.token.now c.args.text.now c.if-text-n.false c.if-text-n-ne32.true)

pub returns-then-eq : goal.returns-then-eq
returns-then-eq c =
    let parts = login_data-parts c.args.name.now c.args.token.now c.args.text.now c.if-text-n.false c.if-text-n-ne32.false in
    let n = length c.args.name.now in
    let rest : c.eq-then-eq.result ≡ bytes_eq (drop (suc n) c.args.text.now) c.args.token.now =
    c.eq-then-eq.ensures
    ∙ ap (λ xs. bytes_eq xs c.args.token.now)
    (take_rest c.args.text.now (n + 1) ∙ ap (λ k. drop k c.args.text.now) (add-one n)) in
    rest ∙ sym (parts ∙ ap (λ b. b && bytes_eq (drop (suc n) c.args.text.now) c.args.token.now) (sym c.eq.ensures ∙ c.if-eq.true))

pub returns-else-eq : goal.returns-else-eq
returns-else-eq c =
    let parts = login_data-parts c.args.name.now c.args.token.now c.args.text.now c.if-text-n.false c.if-text-n-ne32.false in
    sym (parts
    ∙ ap (λ b. b && bytes_eq (drop (suc (length c.args.name.now)) c.args.text.now) c.args.token.now)
    (sym c.eq.ensures ∙ c.if-eq.false)
    ∙ sym c.if-eq.false)
