use Rattle.engine.proofs.Acting.{acted_true, acted_false, acted_other}
use Rattle.engine.proofs.tool.act.Goals as goal

pub returns-in-True : goal.returns-in-True
returns-in-True c = rw (c.in-True.is, c.settled.ensures) (acted_true c.requires)

pub returns-in-False : goal.returns-in-False
returns-in-False c = rw (c.in-False.is, c.settled-in-False.ensures) (acted_false c.requires)

pub returns-in-Echo : goal.returns-in-Echo
returns-in-Echo c = rw c.in-Echo.is c.echo.ensures

pub returns-in-Test : goal.returns-in-Test
returns-in-Test c = rw c.in-Test.is c.test.ensures

pub returns-in-Cat : goal.returns-in-Cat
returns-in-Cat c = rw c.in-Cat.is c.cat.ensures

pub returns-in-Env : goal.returns-in-Env
returns-in-Env c = rw c.in-Env.is c.env.ensures

pub returns-in-Other : goal.returns-in-Other
returns-in-Other c = rw (c.in-Other.is, c.settled-in-Other.ensures) (acted_other c.requires)
