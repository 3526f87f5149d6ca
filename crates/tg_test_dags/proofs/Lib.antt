mod HelloHeld
