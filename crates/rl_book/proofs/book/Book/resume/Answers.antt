use Rattle.std.proofs.Common.{refl}
use Rattle.rl_book.proofs.book.Book.resume.Goals as goal

pub returns-clause-throws_stay : goal.returns-clause-throws_stay
returns-clause-throws_stay g c = let same = c.resume.ensures.same c.args.self.now.observers (refl, refl, λ k s. refl) in same.2
