use Rattle.std.proofs.Common.{◌≡◌, ℕ, List, replicate, refl, ap, ◌∙◌}
use Rattle.std.proofs.lemmas.List.{take-replicate}
use Rattle.card.specs.Settling.{none}
use Rattle.cabinet.specs.Orders.{Force}
use Rattle.cabinet.proofs.Cabinet.commission.Goals as goal

force_idle : {ps qs hs ks : List ℕ} → ps ≡ qs → hs ≡ ks → ◌≡◌ {A = Force} (record { pairs = ps; holds = hs }) (record { pairs = qs; holds = ks })
force_idle e f = cc

pub returns : goal.returns
returns g c =
    let few = (g.met.C.Card.sound c.args.card).few_cells in
    record {
      card = refl;
      log = (
        record {
          lines_are = refl;
          cells_are = refl;
          force = force_idle (c.in-Ok.ensures.pairs ∙ ap (λ (n : ℕ). replicate n none) c.lines.ensures) (take-replicate (g.C.Card.meaning c.args.card).cells 64 none few);
          setting = take-replicate (g.C.Card.meaning c.args.card).cells 64 0 few;
        },
        refl,
      );
    }
