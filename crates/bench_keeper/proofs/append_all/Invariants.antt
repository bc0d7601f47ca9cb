use Rattle.std.proofs.Common.{◌≡◌, length}
use Rattle.std.specs.Prelude.{IfSome}
use Rattle.bench_keeper.proofs.append_all.Given as goal

-- where the keeper tells its entries, there are so many
abbrev pub invariant-more : goal.invariant-more
invariant-more g l = IfSome (g.K.Keeper.entries l.keeper) (λ told. l.number ≡ length told)
