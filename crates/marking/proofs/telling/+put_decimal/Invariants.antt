-- `marking::telling::put_decimal` meets its contract: all digits but the last are a call, which may have one fewer.
use Rattle.marking.proofs.telling.+put_decimal.Given as goal

abbrev pub decreases-put_decimal : goal.decreases-put_decimal
decreases-put_decimal l = l.most
